-- The ranges of what lines say.
use Rattle.std.proofs.Common.{◌≡◌, ◌≤◌, ℕ, Bool, true, false, ◌^◌, ◌==◌, ◌||◌, ◌⊎◌, inl, inr, refl, arith}
use Rattle.std.proofs.lemmas.Bool.Decides.{nat_tests}
use Rattle.base_types.specs.Scenario.{IsQueueSize}
use Rattle.script_text.specs.LineForms.{is_size}

split : (a b : Bool) → a || b ≡ true → (a ≡ true) ⊎ (b ≡ true)
split true b h = inl refl
split false b h = inr h

named : (n m : ℕ) → (n == m) ≡ true → n ≡ m
named n m h = grind (arith, nat_tests)

power : (n k m : ℕ) → m ≡ 2 ^ k → 64 ≤ m → m ≤ 4096 → (n == m) ≡ true → IsQueueSize n
power n k m is low high h = let e : n ≡ m = named n m h in rw e (record { power = k; is = is; least = low; most = high })

pub queue_size : (n : ℕ) → is_size n ≡ true → IsQueueSize n
queue_size n h = elim (split _ (n == 4096) h) [
  | inr e ↦ power n 12 4096 refl (omega arith) (omega arith) e
  | inl h ↦ elim (split _ (n == 2048) h) [
    | inr e ↦ power n 11 2048 refl (omega arith) (omega arith) e
    | inl h ↦ elim (split _ (n == 1024) h) [
      | inr e ↦ power n 10 1024 refl (omega arith) (omega arith) e
      | inl h ↦ elim (split _ (n == 512) h) [
        | inr e ↦ power n 9 512 refl (omega arith) (omega arith) e
        | inl h ↦ elim (split _ (n == 256) h) [
          | inr e ↦ power n 8 256 refl (omega arith) (omega arith) e
          | inl h ↦ elim (split (n == 64) (n == 128) h) [
            | inr e ↦ power n 7 128 refl (omega arith) (omega arith) e
            | inl e ↦ power n 6 64 refl (omega arith) (omega arith) e
          ]
        ]
      ]
    ]
  ]
]
