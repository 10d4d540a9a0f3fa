-- Which bytes each kind of short text may have.
use Rattle.std.specs.Prelude.{ℕ, Bool}
use Rattle.base_types.specs.declared.name_bytes.ByteKind.{ByteKind}
use Rattle.base_types.specs.declared.name_bytes.ByteKind.TheVariants as kinds
use Rattle.base_types.specs.Names.{is_name_byte, is_word_byte, is_text_byte}

-- a byte of this kind
abbrev pub is_byte_of : ByteKind → ℕ → Bool
is_byte_of kinds.Name = is_name_byte
is_byte_of kinds.Word = is_word_byte
is_byte_of kinds.Text = is_text_byte
