-- The numbers of the generator, and what is drawn by them.
use Rattle.std.specs.Prelude.{ℕ, ◌+◌, ◌*◌, ◌/◌, ◌%◌}

-- the number after this one
unfoldable pub next : ℕ → ℕ
next x = (x * 1103515245 + 12345) % 2147483648

-- what this number draws of 0, 1, .. below k
unfoldable pub drawn : ℕ → ℕ → ℕ
drawn k x = (x / 65536) % k
