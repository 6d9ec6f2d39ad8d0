-- What a cache shows and holds, as its lines and the device below change.
use Rattle.std.proofs.Common.{◌≡◌, ℕ, zero, suc, ◌+◌, ◌<◌, List, [], ◌∷◌, length, set, add-zero, zero-add, Some, None, Option, sym, refl, ap, ◌∙◌, inl, inr, arith, rules}
use Rattle.std.proofs.lemmas.List.{set-set, length-set}
use Rattle.std.proofs.lemmas.Bool.{cases_eq}
use Rattle.device.specs.Blocks.{Shown, shown_at, Held}
use Rattle.device.specs.Operations.{Op, write, target, Ran}
use Rattle.device.proofs.Operations.{ran_count, Among, kept_joined, to_joined, joined_among, BlockRan, block_ran, ran_by_block, block_untouched, block_elsewhere, block_here, block_changed, ran_nothing, ran-++}
use Rattle.lines.specs.declared.line.Line.{Line}
use Rattle.lines.specs.declared.table.Table.{Table}
use Rattle.lines.specs.Lines.{empty_line, line_of, line_at, block_at, Apart, waiting, waiting_in, all_waiting, waiting_for}
use Rattle.lines.specs.Tables.{taken, lines_written, evicted, lines_without}
use Rattle.layers.specs.Caching.{shown_over, held_over, shown_from, cache_shown, cache_held}
use Rattle.lines.proofs.Lines.{search_for, stands_within, at_same, taken_within, taken_only, apart_set, apart_empty}
use Rattle.layers.proofs.Kept.{KeptBy, left_more}
use Rattle.layers.proofs.Waiting.{waits_at, waits_not, waiting_other, waiting_new, waiting_gone, all_at}

-- as many blocks as below
shown_from_count : (n : ℕ) (ls : List Line) (d : List Shown) → length (shown_from n ls d) ≡ length d
shown_from_count n ls [] = refl
shown_from_count n ls (c ∷ d) = ap suc (shown_from_count (suc n) ls d)

pub cache_count : (ls : List Line) (d : List Shown) → length (cache_shown ls d) ≡ length d
cache_count ls d = shown_from_count 0 ls d

shown_from_at : (k : ℕ) (ls : List Line) (d : List Shown) (n : ℕ) → n < length d → shown_at (shown_from k ls d) n ≡ shown_over (waiting_for ls (k + n)) (shown_at d n)
shown_from_at k ls [] n h = absurd (omega arith)
shown_from_at k ls (c ∷ d) zero h = rw add-zero
shown_from_at k ls (c ∷ d) (suc n) h = grind (arith, shown_from_at (suc k) ls d n)

pub cache_at : (ls : List Line) (d : List Shown) (n : ℕ) → n < length d → shown_at (cache_shown ls d) n ≡ shown_over (waiting_for ls n) (shown_at d n)
cache_at ls d n h = rw zero-add at (shown_from_at 0 ls d n h)

-- A cache of these lines over a device that showed d and held h went through the operations; it has lines ls' now, and the device shows d' and holds h'.
abbrev pub CacheRan : List Op → List Line → List Shown → Held → List Line → List Shown → Held → Type 0
CacheRan os ls d h ls' d' h' = Ran os (cache_shown ls d) (cache_held ls d h) (cache_shown ls' d') (cache_held ls' d' h')

-- What happens to a block of the cache, by what waits for it, and what it shows and holds below.
abbrev Over : List Op → ℕ → Option (List ℕ) → Shown → List (List ℕ) → Option (List ℕ) → Shown → List (List ℕ) → Type 0
Over os n w c kept w' c' kept' = BlockRan os n (shown_over w c) (held_over w c kept) (shown_over w' c') (held_over w' c' kept')

-- a run below is a run of the cache, if at each block what happens below makes what happens to the cache
cache_ran : (os : List Op) (ls ls' : List Line) {ps : List Op} {d d' : List Shown} {h h' : Held} → Ran ps d h d' h'
    → ((n : ℕ) (c c' : Shown) (kept kept' : List (List ℕ)) → BlockRan ps n c kept c' kept' → Over os n (waiting_for ls n) c kept (waiting_for ls' n) c' kept')
    → CacheRan os ls d h ls' d' h'
cache_ran os ls ls' {d = d} {d'} run each = ran_by_block os _ _ _ _ (cache_count ls' d' ∙ ran_count run ∙ sym (cache_count ls d)) (λ n l.
    let m : n < length d = omega (arith, cache_count ls d) in
    rw (cache_at ls d n m, cache_at ls' d' n (omega (arith, ran_count run))) (each n _ _ _ _ (block_ran _ _ _ _ _ run n m)))

-- what is held grows with what is held below
held_among : {n : ℕ} {c c' : Shown} {kept kept' : List (List ℕ)} (w : Option (List ℕ)) → BlockRan [] n c kept c' kept' → Among (held_over w c' kept') (held_over w c kept)
held_among None run = run.holds
held_among {c = c} {kept = kept} {kept' = kept'} (Some s) run = rw run.shows (joined_among c kept' kept run.holds)

-- what is kept below is kept by the cache
pub kept_below : (w : Option (List ℕ)) (c : Shown) (kept : List (List ℕ)) → KeptBy c kept (shown_over w c) (held_over w c kept)
kept_below None c kept = search rules
kept_below (Some x) c kept = search (rules, kept_joined, to_joined)

-- a block for which the same waits as before, and which nothing changes below
over_same : {n : ℕ} {w w' : Option (List ℕ)} {c c' : Shown} {kept kept' : List (List ℕ)} → w' ≡ w → BlockRan [] n c kept c' kept' → Over [] n w c kept w' c' kept'
over_same {w = w} e run = rw e (record { shows = ap (shown_over w) run.shows; holds = held_among w run })

-- The lines stay, and below nothing changes.
pub cache_kept : (ls : List Line) {d d' : List Shown} {h h' : Held} → Ran [] d h d' h' → CacheRan [] ls d h ls d' h'
cache_kept ls run = cache_ran [] ls ls run (λ n c c' kept kept' below. over_same refl below)

-- two tables whose lines differ at most for block b
abbrev SameBut : ℕ → List Line → List Line → Type 0
SameBut b ls ls' = (n : ℕ) → (n ≡ b → ⊥) → waiting_for ls' n ≡ waiting_for ls n

-- The line for a block is dropped and an operation on the block passed on.
pub passed_on : (o : Op) (ls ls' : List Line) (d d' : List Shown) (h h' : Held) → waiting_for ls' (target o) ≡ None → SameBut (target o) ls ls' → Ran (o ∷ []) d h d' h'
    → CacheRan (o ∷ []) ls d h ls' d' h'
passed_on o ls ls' d d' h h' gone same run = cache_ran (o ∷ []) ls ls' run (λ n c c' kept kept' below.
    elim (cases_eq n (target o)) [
      | inl e ↦
          (let b = block_changed o n e _ _ _ _ below in
          rw (ap (waiting_for ls') e ∙ gone) (block_here o n e _ _ _ _ b.0 (λ s m. left_more (kept_below (waiting_for ls n) _ _) o s (b.1 s m))))
      | inr ne ↦ block_elsewhere o n ne _ _ _ _ (over_same (same n ne) (block_untouched o n ne _ _ _ _ below))
    ])

-- A sector comes to wait for block n.
pub put : (n : ℕ) (s : List ℕ) (ls ls' : List Line) (d d' : List Shown) (h h' : Held) → waiting_for ls' n ≡ Some s → SameBut n ls ls' → Ran [] d h d' h'
    → CacheRan (write n s ∷ []) ls d h ls' d' h'
put b s ls ls' d d' h h' new same run = cache_ran (write b s ∷ []) ls ls' run (λ n c c' kept kept' below.
    elim (cases_eq n b) [
      | inl e ↦
          rw (ap (waiting_for ls') e ∙ new)
          (block_here (write b s) n e _ _ _ _ refl (λ x m. left_more (kept_below (waiting_for ls n) _ _) (write b s) x (held_among (Some s) below x m)))
      | inr ne ↦ block_elsewhere (write b s) n ne _ _ _ _ (over_same (same n ne) below)
    ])

-- The line that stands for a block is written below and emptied.
written_back : (b : ℕ) (s : List ℕ) (ls ls' : List Line) (d d' : List Shown) (h h' : Held) → waiting_for ls b ≡ Some s → waiting_for ls' b ≡ None → SameBut b ls ls' → Ran (write b s ∷ []) d h d' h'
    → CacheRan [] ls d h ls' d' h'
written_back b s ls ls' d d' h h' old gone same run = cache_ran [] ls ls' run (λ n c c' kept kept' below.
    elim (cases_eq n b) [
      | inl e ↦
          (let x = block_changed (write b s) n e _ _ _ _ below in
          rw (ap (waiting_for ls) e ∙ old, ap (waiting_for ls') e ∙ gone) (record { shows = x.0; holds = x.1 }))
      | inr ne ↦ over_same (same n ne) (block_untouched (write b s) n ne _ _ _ _ below)
    ])

-- All lines are written below and emptied.
pub all_written_back : (ls ls' : List Line) → Apart ls → ((n : ℕ) → waiting_for ls' n ≡ None) → {d d' : List Shown} {h h' : Held} → Ran (all_waiting ls) d h d' h'
    → CacheRan [] ls d h ls' d' h'
all_written_back ls ls' apart gone run = cache_ran [] ls ls' run (λ n c c' kept kept' below.
    let all = all_at ls apart n c kept in
    rw (gone n) (record { shows = below.shows ∙ all.0; holds = rw all.1 at below.holds }))

-- Line i is written below, if it stands for a block, and emptied.
module _ (ls : List Line) (i : ℕ) (inside : i < length ls) (apart : Apart ls) where
  same_but : (n : ℕ) → (block_at ls i ≡ Some n → ⊥) → waiting_for (set ls i empty_line) n ≡ waiting_for ls n
  same_but n ne = waiting_other ls i empty_line inside (apart_empty ls i inside apart) n (λ f. cc) ne

  pub line_emptied : (o : Option ℕ) → block_at ls i ≡ o → {d d' : List Shown} {h h' : Held} → Ran (waiting_in o (line_at ls i).bytes) d h d' h' → CacheRan [] ls d h (set ls i empty_line) d' h'
  line_emptied None e run = cache_ran [] ls (set ls i empty_line) run (λ n c c' kept kept' below. over_same (same_but n (λ f. cc)) below)
  line_emptied (Some b) e run =
      written_back b (line_at ls i).bytes ls (set ls i empty_line) _ _ _ _ (waits_at ls apart i b e) (waiting_gone ls i b inside apart e) (λ n ne. same_but n (λ f. ne (cc))) run

-- Line i, which stands for no other block, comes to stand for block n.
line_filled : (ls : List Line) (i n : ℕ) (s : List ℕ) → i < length ls → Apart (set ls i (line_of n s)) → ((m : ℕ) → (m ≡ n → ⊥) → block_at ls i ≡ Some m → ⊥)
    → {d d' : List Shown} {h h' : Held} → Ran [] d h d' h' → CacheRan (write n s ∷ []) ls d h (set ls i (line_of n s)) d' h'
line_filled ls i n s inside apart free run =
    put n s ls (set ls i (line_of n s)) _ _ _ _ (waiting_new ls i (line_of n s) inside apart n refl)
    (λ m ne. waiting_other ls i (line_of n s) inside apart m (λ e. ne (cc)) (free m ne)) run

-- Line i is written below, and then comes to stand for block n.
line_replaced : (ls : List Line) (i n : ℕ) (s : List ℕ) → i < length ls → Apart ls → Apart (set ls i (line_of n s)) → {d d' : List Shown} {h h' : Held} → Ran (waiting (line_at ls i)) d h d' h'
    → CacheRan (write n s ∷ []) ls d h (set ls i (line_of n s)) d' h'
line_replaced ls i n s inside apart apart' {d' = d'} {h' = h'} run =
    let bare = set ls i empty_line in
    let twice = set-set ls i empty_line (line_of n s) in
    let filled = line_filled bare i n s (rw length-set inside) (rw twice apart') (λ m ne e. cc (at_same ls i empty_line inside)) (ran_nothing d' h') in
    ran-++ [] (write n s ∷ []) _ _ _ _ _ _ (line_emptied ls i inside apart (block_at ls i) refl run) (rw twice at filled)

-- A write takes a line, after the one that makes room is written below.
module _ (t : Table) (n : ℕ) (s : List ℕ) {d d' : List Shown} {h h' : Held} where
  -- by the room that there is
  by_room : taken t n < length t.lines → Apart (lines_written t n s) → Ran (waiting (evicted t n)) d h d' h' → CacheRan (write n s ∷ []) t.lines d h (lines_written t n s) d' h'
  by_room =
      elim (search_for t.lines (Some n)) [
        | inl f ↦ rw f.at (λ inside apart run. line_filled t.lines f.line n s inside apart (λ m ne e. ne (cc)) run)
        | inr m ↦ elim (search_for t.lines None) [
          | inl f ↦ rw (m.at, f.at) (λ inside apart run. line_filled t.lines f.line n s inside apart (λ k ne e. cc) run)
          | inr e ↦ rw (m.at, e.at) (λ inside apart run. line_replaced t.lines t.turn n s inside t.apart apart run)
        ]
      ]

  pub written : Ran (waiting (evicted t n)) d h d' h' → CacheRan (write n s ∷ []) t.lines d h (lines_written t n s) d' h'
  written = by_room (taken_within t n) (apart_set t.lines (taken t n) (line_of n s) (taken_within t n) t.apart (taken_only t n))

-- The line for a block is dropped, if there is one, and an operation on the block passed on.
pub dropped : (t : Table) (o : Op) {d d' : List Shown} {h h' : Held} → Ran (o ∷ []) d h d' h' → CacheRan (o ∷ []) t.lines d h (lines_without t (target o)) d' h'
dropped t o run =
    let ls = t.lines in
    elim (search_for ls (Some (target o))) [
      | inl f ↦
          rw f.at
          (passed_on o ls (set ls f.line empty_line) _ _ _ _ (waiting_gone ls f.line (target o) f.within t.apart f.block)
          (λ n ne. same_but ls f.line f.within t.apart n (λ e. ne (cc))) run)
      | inr m ↦ rw m.at (passed_on o ls ls _ _ _ _ (waits_not ls (target o) (λ i e. m.none i (stands_within ls i (target o) e) e)) (λ n ne. refl) run)
    ]

-- A cache with empty lines shows and holds what is shown and held below.
pub shown_bare : (n : ℕ) (ls : List Line) (d : List Shown) → ((m : ℕ) → waiting_for ls m ≡ None) → shown_from n ls d ≡ d
shown_bare n ls [] none = refl
shown_bare n ls (c ∷ d) none = rw (none n, shown_bare (suc n) ls d none)
