-- Small numbers one by one, and the names that they make with a letter.
use Rattle.std.proofs.Common.{◌<◌, ℕ, zero, suc, codes, refl, arith}
use Rattle.std.specs.Fmt.{digits}
use Rattle.base_types.specs.Names.{IsName}
use Rattle.make_script.specs.Scripts.{numbered}

-- what holds of each number below ten
pub below_ten : (P : ℕ → Type 0) → P 0 → P 1 → P 2 → P 3 → P 4 → P 5 → P 6 → P 7 → P 8 → P 9 → (n : ℕ) → n < 10 → P n
below_ten P a b c d e f g h i j zero few = a
below_ten P a b c d e f g h i j (suc zero) few = b
below_ten P a b c d e f g h i j (suc (suc zero)) few = c
below_ten P a b c d e f g h i j (suc (suc (suc zero))) few = d
below_ten P a b c d e f g h i j (suc (suc (suc (suc zero)))) few = e
below_ten P a b c d e f g h i j (suc (suc (suc (suc (suc zero))))) few = f
below_ten P a b c d e f g h i j (suc (suc (suc (suc (suc (suc zero)))))) few = g
below_ten P a b c d e f g h i j (suc (suc (suc (suc (suc (suc (suc zero))))))) few = h
below_ten P a b c d e f g h i j (suc (suc (suc (suc (suc (suc (suc (suc zero)))))))) few = i
below_ten P a b c d e f g h i j (suc (suc (suc (suc (suc (suc (suc (suc (suc zero))))))))) few = j
below_ten P a b c d e f g h i j (suc (suc (suc (suc (suc (suc (suc (suc (suc (suc n)))))))))) few = absurd (omega (arith, few))

-- a table, an index and a column have names
pub table_named : (n : ℕ) → n < 10 → IsName (numbered (codes "t") n)
unfolding digits
table_named = below_ten (λ n. IsName (numbered (codes "t") n)) refl refl refl refl refl refl refl refl refl refl

pub index_named : (n : ℕ) → n < 10 → IsName (numbered (codes "i") n)
unfolding digits
index_named = below_ten (λ n. IsName (numbered (codes "i") n)) refl refl refl refl refl refl refl refl refl refl

pub column_named : (n : ℕ) → n < 10 → IsName (numbered (codes "c") n)
unfolding digits
column_named = below_ten (λ n. IsName (numbered (codes "c") n)) refl refl refl refl refl refl refl refl refl refl
