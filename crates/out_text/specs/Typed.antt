-- Which entries and lines there can be by their types, and which of them a text spells.
use Rattle.std.specs.Prelude.{◌≡◌, ℕ, List}
use Rattle.std.specs.List.{All}
use Rattle.event_kinds.specs.declared.entry.Entry.{Entry}
use Rattle.event_kinds.specs.declared.entry.Line.{Line}
use Rattle.event_kinds.specs.Entries.{IsEntryHead, IsItem}
pub use Rattle.event_kinds.specs.Entries.{IsLine}
use Rattle.event_kinds.specs.Texts.{changes_of, text_of}

-- an entry that its types allow: numbers of four bytes, names, words and texts of their bytes, 1 to 32 columns of an index
pub record IsTyped (entry : Entry) : Type 0 where
  pub head : IsEntryHead entry
  pub changes : All IsItem (changes_of entry.event)

-- the text spells this history and these answer lines alone: no other entries and lines that their types allow have it
abbrev pub SpellsOnly : List ℕ → List Entry → List Line → Type 0
SpellsOnly text history lines = (entries : List Entry) (others : List Line) → All IsTyped entries → All IsLine others → text_of entries others ≡ text → (entries ≡ history) × (others ≡ lines)
