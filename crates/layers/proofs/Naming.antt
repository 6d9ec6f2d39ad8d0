-- Layers keep nothing unnamed, and what a pile wipes is wiped in all that lies below it.
use Rattle.std.proofs.Common.{ℕ, ◌<◌, [], ◌∷◌, length, inl, arith}
use Rattle.device.specs.Operations.{wipe}
use Rattle.device.specs.Effects.{Effect, KeepsNothing}
use Rattle.device.specs.declared.traits.Device.{Ghosts}
use Rattle.device.proofs.Forgetting.{wiped}
use Rattle.device.proofs.Operations.{ran_count}
use Rattle.layers.specs.declared.cache.Cache.{Cache}
use Rattle.layers.specs.declared.mirror.Mirror.{Mirror}
use Rattle.lines.specs.Lines.{waiting_for}
use Rattle.layers.specs.Caching.{cached, CacheNamed}
use Rattle.layers.specs.Mirroring.{mirrored, MirrorNamed}
use Rattle.layers.proofs.Kept.{keeps}
use Rattle.layers.proofs.CacheRuns.{cache_at, cache_count, kept_below}
use Rattle.layers.proofs.Waiting.{waits_at}
use Rattle.layers.proofs.MirrorRuns.{mirror_at, first_kept, second_kept}

-- What is kept below is kept by a cache, and a cache shows what waits.
pub cache_named : {D : Type 0} (g : Ghosts D) (c : Cache D) → CacheNamed g c
cache_named g c =
    record {
      below = λ n l x b kept. rw cache_at (keeps (kept_below (waiting_for c.table.lines n) _ _) x b kept);
      waits = λ i n l e. inl (rw (cache_at, waits_at c.table.lines c.table.apart i n e));
    }

-- What a side keeps, the mirror keeps.
pub mirror_named : {A B : Type 0} (g : Ghosts A) (k : Ghosts B) (m : Mirror A B) → MirrorNamed g k m
mirror_named g k m =
    record {
      first = λ n l x b kept. rw mirror_at (keeps (first_kept _ _ _ _) x b kept);
      second = λ n l x b kept. rw mirror_at (keeps (second_kept _ _ _ _) x b kept);
    }

-- A block that a cache over a mirror has wiped is wiped on both sides.
pub wiped_both : {A B : Type 0} (g : Ghosts A) (k : Ghosts B) (n : ℕ) (c c' : Cache (Mirror A B)) → Effect (cached (mirrored g k)) (wipe n ∷ []) c c' → n < length ((cached (mirrored g k)).shown c)
    → KeepsNothing g c'.below.a n × KeepsNothing k c'.below.b n
wiped_both g k n c c' run l = (λ x b kept. gone x b (sides.first n here x b kept), λ x b kept. gone x b (sides.second n here x b kept)) where
  sides : MirrorNamed g k c'.below
  sides = mirror_named g k c'.below

  here : n < length ((mirrored g k).shown c'.below)
  here = omega (arith, ran_count run, cache_count c'.table.lines ((mirrored g k).shown c'.below))

  gone : KeepsNothing (mirrored g k) c'.below n
  gone x b kept = wiped n _ _ _ _ run l x b ((cache_named (mirrored g k) c').below n here x b kept)
