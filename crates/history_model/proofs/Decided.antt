-- Facts that a test decides, of parts that tests decide; and whether two modes are one.
use Rattle.std.proofs.Common.{◌≡◌, ◌∙◌, ◌&&◌, ◌==◌, ℕ, Bool, true, false, refl, sym, ap, if◌then◌else◌}
use Rattle.std.specs.Bool.{Decides}
use Rattle.std.proofs.lemmas.Bool.{and_from, and_parts, eq-eqb, eqb-true}
use Rattle.base_types.specs.Modes.{mode_number, same_mode}
use Rattle.base_types.specs.declared.mode.Mode.TheVariants as modes
use Rattle.history_model.specs.Types.{Mode}

-- what is so, and what isn't
pub always : {P : Type 0} → P → Decides true P
always p = (λ is. p, λ is. refl)

pub never : {P : Type 0} → (P → ⊥) → Decides false P
never not_so = (λ is. absurd (cc), λ is. absurd (not_so is))

-- two facts, each by its test
pub both_decide : {P Q : Type 0} (a b : Bool) → Decides a P → Decides b Q → Decides (a && b) (P × Q)
both_decide a b p q = (λ is. let parts = and_parts a b is in (p.0 parts.0, q.0 parts.1), λ is. and_from a b (p.1 is.0) (q.1 is.1))

-- a fact that comes to one which is decided
pub decided_by : {P Q : Type 0} (t : Bool) → Decides t P → (P → Q) → (Q → P) → Decides t Q
decided_by t d to from = (λ is. to (d.0 is), λ is. d.1 (from is))

-- a mode is known by its number
mode_with : ℕ → Mode
mode_with n = if n == 1 then modes.AccessShare else if n == 2 then modes.RowShare else if n == 3 then modes.RowExclusive else if n == 4 then modes.ShareUpdateExclusive else if n == 5 then modes.Share else if n == 6 then modes.ShareRowExclusive else if n == 7 then modes.Exclusive else modes.AccessExclusive

mode_again : (m : Mode) → mode_with (mode_number m) ≡ m
unfolding mode_with
mode_again modes.AccessShare = refl
mode_again modes.RowShare = refl
mode_again modes.RowExclusive = refl
mode_again modes.ShareUpdateExclusive = refl
mode_again modes.Share = refl
mode_again modes.ShareRowExclusive = refl
mode_again modes.Exclusive = refl
mode_again modes.AccessExclusive = refl

pub mode_decides : (a b : Mode) → Decides (same_mode a b) (a ≡ b)
mode_decides a b = (λ is. sym (mode_again a) ∙ ap mode_with (eqb-true (mode_number a) (mode_number b) is) ∙ mode_again b, λ is. eq-eqb (mode_number a) (mode_number b) (ap mode_number is))
