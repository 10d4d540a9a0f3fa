-- What is carried along a sound history, of which each entry is such.
use Rattle.std.proofs.Common.{List, [], ◌∷◌, ◌++◌}
use Rattle.history_model.specs.Sound.{MayComeNext, IsSound}
use Rattle.history_model.specs.Prefixes.{EachEntry}
use Rattle.history_model.proofs.Prefixes.{EachEntry-more, EachFrom-both, each-keeps}
use Rattle.cacheless.specs.Types.{Entry}

-- what holds at the start, and is kept by each entry that may come next and of which W holds, holds of the history
pub along_sound : (W : List Entry → Entry → Type 0) (Inv : List Entry → Type 0) → Inv [] → ((before : List Entry) (e : Entry) → IsSound before → MayComeNext before e → W before e → Inv before → Inv (before ++ e ∷ []))
    → (history : List Entry) → IsSound history → EachEntry W history → Inv history
along_sound W Inv start more history sound each =
    (each-keeps (λ before e. MayComeNext before e × W before e) (λ h. IsSound h × Inv h) (tt, start) (λ before e k next. (EachEntry-more MayComeNext before e k.0 next.0, more before e k.0 next.0 next.1 k.1)) history
    (EachFrom-both MayComeNext W [] history sound each)).1
