-- The lines of a text, and which of them count.
use Rattle.std.specs.Prelude.{ℕ, Bool, false, List, [], ◌∷◌, ◌==◌, ◌+◌, ◌||◌, ◌&&◌, not, ◌-◌, length, get_or, take, min, nat_le, if◌then◌else◌}
use Rattle.std.specs.List.{prefix_len}

-- a blank or a tab
abbrev pub is_blank : ℕ → Bool
is_blank byte = (byte == 32) || (byte == 9)

-- a byte added at the front of the first line
abbrev pub with_byte : ℕ → List (List ℕ) → List (List ℕ)
with_byte byte [] = (byte ∷ []) ∷ []
with_byte byte (line ∷ lines) = (byte ∷ line) ∷ lines

-- the lines of a text, each with the line feed that ends it
unfoldable pub text_lines : List ℕ → List (List ℕ)
text_lines [] = []
text_lines (byte ∷ bytes) = if byte == 10 then (byte ∷ []) ∷ text_lines bytes else with_byte byte (text_lines bytes)

-- the length of the first line with its line feed
abbrev pub line_len : List ℕ → ℕ
line_len text = min (prefix_len (λ byte. not (byte == 10)) text + 1) (length text)

-- the text ends in this byte
abbrev pub ends_in : ℕ → List ℕ → Bool
ends_in byte text = not (length text == 0) && (get_or text (length text - 1) 0 == byte)

-- the text without its last byte
abbrev pub but_last : List ℕ → List ℕ
but_last text = take (length text - 1) text

-- a line without its line feed and the carriage return before that
unfoldable pub bare : List ℕ → List ℕ
bare line = if ends_in 10 line then (if ends_in 13 (but_last line) then but_last (but_last line) else but_last line) else line

-- the text begins with two dashes
abbrev pub begins_comment : List ℕ → Bool
begins_comment (a ∷ b ∷ bytes) = (a == 45) && (b == 45)
begins_comment bytes = false

-- the text that a line has after its blanks makes it count
abbrev pub rest_counts : List ℕ → Bool
rest_counts [] = false
rest_counts (byte ∷ bytes) = not (begins_comment (byte ∷ bytes))

-- a line counts if it has more than blanks and isn't a comment
unfoldable pub counts : List ℕ → Bool
counts [] = false
counts (byte ∷ bytes) = if is_blank byte then counts bytes else not (begins_comment (byte ∷ bytes))

-- a byte that no line may hold which counts: one that is neither printable ASCII nor a tab
abbrev pub is_bad_byte : ℕ → Bool
is_bad_byte byte = not ((byte == 9) || (nat_le 32 byte && nat_le byte 126))

-- a letter as a small letter
abbrev pub small : ℕ → ℕ
small byte = if nat_le 65 byte && nat_le byte 90 then byte + 32 else byte
