-- Counts of faults where one call follows another.
use Rattle.std.proofs.Common.{◌≡◌, ℕ, ◌≤◌, Ok, Err, sym, ◌∙◌, subst, arith}
use Rattle.edge_io.specs.Causes.{HasCause, Rose}

module _ {T E : Type 0} (first before now : ℕ) (same : before ≡ first) where
  -- the count rose from where it was first
  pub failed : (error : E) → (before ≤ now) × Rose before now → HasCause {T = T} first now (Err error)
  failed error rose = record { later = subst (λ n. n ≤ now) same rose.0; failed = subst (λ n. Rose n now) same rose.1; steady = tt }

  -- the count stayed where it was first
  pub stayed : (value : T) → now ≡ before → HasCause {E = E} first now (Ok value)
  stayed value steady = let is = steady ∙ same in record { later = subst (λ n. first ≤ n) (sym is) (omega arith); failed = tt; steady = is }
