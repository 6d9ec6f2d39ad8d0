-- Operations in their order: lists of them joined, and what they do together.
use Rattle.std.proofs.Common.{List, [], ◌∷◌, ◌++◌}
use Rattle.device.specs.Operations.{Op}
use Rattle.device.specs.Effects.{Effect, Steps}
use Rattle.device.specs.declared.traits.Device.{Ghosts}
use Rattle.device.proofs.Operations.{ran_nothing, ran-++}

module _ {D : Type 0} (g : Ghosts D) where
  effect-++ : (os ps : List Op) (d m d' : D) → Effect g os d m → Effect g ps m d' → Effect g (os ++ ps) d d'
  effect-++ os ps d m d' one two = ran-++ os ps (g.shown d) (g.shown m) (g.shown d') (g.held d) (g.held m) (g.held d') one two

  -- where nothing is done before or after them, the steps are the same
  pub steps_after : (os : List Op) (d m d' : D) → Effect g [] d m → Steps g os m d' → Steps g os d d'
  steps_after [] d m d' still run = effect-++ [] [] d m d' still run
  steps_after (o ∷ os) d m d' still run = (run.0, effect-++ [] (o ∷ []) d m run.0 still run.1, run.2)

  pub steps_before : (os : List Op) (d m d' : D) → Steps g os d m → Effect g [] m d' → Steps g os d d'
  steps_before [] d m d' run still = effect-++ [] [] d m d' run still
  steps_before (o ∷ os) d m d' run still = (run.0, run.1, steps_before os run.0 m d' run.2 still)

  pub steps-++ : (os ps : List Op) (d m d' : D) → Steps g os d m → Steps g ps m d' → Steps g (os ++ ps) d d'
  steps-++ [] ps d m d' one two = steps_after ps d m d' one two
  steps-++ (o ∷ os) ps d m d' one two = (one.0, one.1, steps-++ os ps one.0 m d' one.2 two)

  -- no operation, or one
  pub no_step : (d : D) → Steps g [] d d
  no_step d = ran_nothing (g.shown d) (g.held d)

  pub one_step : (o : Op) (d d' : D) → Effect g (o ∷ []) d d' → Steps g (o ∷ []) d d'
  one_step o d d' run = (d', run, no_step d')

  -- what they do together
  pub effect_of : (os : List Op) (d d' : D) → Steps g os d d' → Effect g os d d'
  effect_of [] d d' run = run
  effect_of (o ∷ os) d d' run = effect-++ (o ∷ []) os d run.0 d' run.1 (effect_of os run.0 d' run.2)
