-- Arguments ask for the output of one word at most.
use Rattle.std.proofs.Common.{◌≡◌, ◌∙◌, ℕ, Option, List, refl, sym, subst}
use Rattle.backend_core.specs.declared.backend.Backend.{Backend}
use Rattle.cacheless.specs.declared.check_kind.CheckKind.{CheckKind}
use Rattle.cacheless.specs.declared.check_kind.CheckKind.TheVariants as kinds
use Rattle.catsync_top.specs.declared.arguments.Word.TheVariants as words
use Rattle.catsync_top.specs.Sessions.{RanCoherently}
use Rattle.catsync_top.specs.Top.{Ask}

pub one_kind : (arguments : List (List ℕ)) (asked kind : CheckKind) → Ask arguments (words.Output asked) → Ask arguments (words.Output kind) → asked ≡ kind
one_kind arguments kinds.Walk kinds.Walk first second = refl
one_kind arguments kinds.Run kinds.Run first second = refl
one_kind arguments kinds.Walk kinds.Run first second = absurd (let k = sym first ∙ second in cc)
one_kind arguments kinds.Run kinds.Walk first second = absurd (let k = sym first ∙ second in cc)

-- what was run is what was asked for
pub ran_as_asked : (arguments : List (List ℕ)) (asked kind : CheckKind) (left rest taken now : Option (List ℕ)) (Writes : Option (List ℕ) → Option (List ℕ) → List ℕ → Type 0) (sessions : List Backend)
    → Ask arguments (words.Output asked) → Ask arguments (words.Output kind) → RanCoherently asked left rest taken now Writes sessions → RanCoherently kind left rest taken now Writes sessions
ran_as_asked arguments asked kind left rest taken now Writes sessions first second ran = subst (λ k. RanCoherently k left rest taken now Writes sessions) (one_kind arguments asked kind first second) ran
