-- What is read of a row or a key is spelled so, and what is spelled so is read.
use Rattle.std.proofs.Common.{◌≡◌, ℕ, ℤ, Bool, List, [], ◌++◌, Option, Some, refl, ap, ◌∙◌, append_assoc, codes}
use Rattle.base_types.specs.Words.{valid_word, live_word, on_word}
use Rattle.event_kinds.specs.Events.{Kind, ColType, IndexState, ConKind, Row, RowKey}
use Rattle.base_types.specs.declared.row.ConKind.TheVariants as kinds
use Rattle.base_types.specs.declared.row.Row.TheVariants as rows
use Rattle.base_types.specs.declared.row_key.RowKey.TheVariants as keys
use Rattle.event_kinds.specs.Texts.{con_text, row_text, key_text}
use Rattle.event_kinds.specs.Entries.{IsConKind, IsRow, IsKey}
use Rattle.event_kinds.specs.Readers.{lit_at}
use Rattle.event_kinds.specs.Reading.{class_of, att_of, def_of, ind_of, con_of, trg_of, check_of, foreign_of, class_at, att_at, def_at, ind_at, check_con_at, foreign_con_at, what_cases, what_at, con_at, trg_at, row_cases, row_at, key_class_of, key_att_of, key_def_of, key_ind_of, key_con_of, key_trg_of, key_cases, key_at}
use Rattle.event_kinds.proofs.Spelling.{Any, Spells, Behind, choose_behind, Part, behind_part, again_part}
use Rattle.event_kinds.proofs.Fields.{TokenEnds, valid_flags, live_flags, on_flags}
use Rattle.event_kinds.proofs.Parts.{number_part, name_part, word_part, text_part, kind_part, type_part, state_part, signed_part, fill_part, nums_part, flag_part, comma_part, closed_part}

-- the columns of each catalog after its word
abbrev class_part : Part (ℕ × (List ℕ × (Kind × Option ℕ)))
class_part = comma_part number_part (λ rest. refl) (comma_part name_part (λ rest. refl) (comma_part kind_part (λ rest. refl) (closed_part fill_part (λ rest. refl))))

abbrev att_part : Part (ℕ × (ℕ × (List ℕ × (ColType × (ℤ × Bool)))))
att_part = comma_part number_part (λ rest. refl) (comma_part number_part (λ rest. refl) (comma_part name_part (λ rest. refl) (comma_part type_part (λ rest. refl) (comma_part signed_part (λ rest. refl) (closed_part (flag_part live_word live_flags) (λ rest. refl))))))

abbrev def_part : Part (ℕ × (ℕ × (ℕ × List ℕ)))
def_part = comma_part number_part (λ rest. refl) (comma_part number_part (λ rest. refl) (comma_part number_part (λ rest. refl) (closed_part word_part (λ rest. refl))))

abbrev ind_part : Part (ℕ × (ℕ × (IndexState × List ℕ)))
ind_part = comma_part number_part (λ rest. refl) (comma_part number_part (λ rest. refl) (comma_part state_part (λ rest. refl) (closed_part nums_part (λ rest. refl))))

abbrev check_part : Part (Bool × List ℕ)
check_part = comma_part (flag_part valid_word valid_flags) (λ rest. refl) text_part

abbrev foreign_part : Part (Bool × (ℕ × (ℕ × ℕ)))
foreign_part = comma_part (flag_part valid_word valid_flags) (λ rest. refl) (comma_part number_part (λ rest. refl) (comma_part number_part (λ rest. refl) number_part))

-- what a constraint says after its name
abbrev what_text : Bool × ConKind → List ℕ
what_text what = con_text what.0 what.1

abbrev IsWhat : Bool × ConKind → Type 0
IsWhat what = IsConKind what.1

check_spelled : (t : Bool × List ℕ) → what_text (check_of t) ≡ codes "c," ++ check_part.text t
check_spelled t = simp append_assoc

foreign_spelled : (t : Bool × (ℕ × (ℕ × ℕ))) → what_text (foreign_of t) ≡ codes "f," ++ foreign_part.text t
foreign_spelled t = simp append_assoc

what_behind : Behind [] what_text IsWhat what_at
unfolding what_at check_con_at foreign_con_at
what_behind = choose_behind what_text IsWhat what_cases (
  behind_part check_part (codes "c,") check_of what_text IsWhat (λ t h. check_spelled t) (λ t h. h.1),
  (
    behind_part foreign_part (codes "f,") foreign_of what_text IsWhat (λ t h. foreign_spelled t) (λ t h. (h.1.0, h.1.1.0, h.1.1.1)),
    tt,
  ),
)

what_again : (valid : Bool) (what : ConKind) (rest : List ℕ) → IsConKind what → TokenEnds rest → what_at (con_text valid what ++ rest) ≡ Some ((valid, what), rest)
unfolding what_at lit_at check_con_at foreign_con_at
what_again valid (kinds.Check text) rest is end =
    ap (λ l. what_at (l ++ rest)) (check_spelled (valid, text)) ∙ again_part check_part check_of (valid, text) rest (tt, is) end
what_again valid (kinds.Foreign num refrel refnum) rest is end =
    let t : Bool × (ℕ × (ℕ × ℕ)) = (valid, (num, (refrel.0, refnum))) in
    ap (λ l. what_at (l ++ rest)) (foreign_spelled t) ∙ again_part foreign_part foreign_of t rest (tt, (is.0, (is.1, is.2))) end

what_spells : Spells what_text IsWhat TokenEnds what_at
what_spells = record { takes = what_behind.takes; again = λ what rest is end. what_again what.0 what.1 rest is end }

abbrev what_part : Part (Bool × ConKind)
what_part = record { text = what_text; Is = IsWhat; Ends = TokenEnds; read = what_at; spells = what_spells }

abbrev con_part : Part (ℕ × (ℕ × (List ℕ × (Bool × ConKind))))
con_part = comma_part number_part (λ rest. refl) (comma_part number_part (λ rest. refl) (comma_part name_part (λ rest. refl) (closed_part what_part (λ rest. refl))))

abbrev trg_part : Part (ℕ × (ℕ × (List ℕ × Bool)))
trg_part = comma_part number_part (λ rest. refl) (comma_part number_part (λ rest. refl) (comma_part name_part (λ rest. refl) (closed_part (flag_part on_word on_flags) (λ rest. refl))))

class_spelled : (t : ℕ × (List ℕ × (Kind × Option ℕ))) → row_text (class_of t) ≡ codes "class(" ++ class_part.text t
class_spelled t = simp append_assoc

att_spelled : (t : ℕ × (ℕ × (List ℕ × (ColType × (ℤ × Bool))))) → row_text (att_of t) ≡ codes "att(" ++ att_part.text t
att_spelled t = simp append_assoc

def_spelled : (t : ℕ × (ℕ × (ℕ × List ℕ))) → row_text (def_of t) ≡ codes "def(" ++ def_part.text t
def_spelled t = simp append_assoc

ind_spelled : (t : ℕ × (ℕ × (IndexState × List ℕ))) → row_text (ind_of t) ≡ codes "ind(" ++ ind_part.text t
ind_spelled t = simp append_assoc

con_spelled : (t : ℕ × (ℕ × (List ℕ × (Bool × ConKind)))) → row_text (con_of t) ≡ codes "con(" ++ con_part.text t
con_spelled t = simp append_assoc

trg_spelled : (t : ℕ × (ℕ × (List ℕ × Bool))) → row_text (trg_of t) ≡ codes "trg(" ++ trg_part.text t
trg_spelled t = simp append_assoc

pub row_behind : Behind [] row_text IsRow row_at
unfolding row_at class_at att_at def_at ind_at con_at trg_at
row_behind = choose_behind row_text IsRow row_cases (
  behind_part class_part (codes "class(") class_of row_text IsRow (λ t h. class_spelled t) (λ t h. (h.0, h.1.0, h.1.1.1)),
  (
    behind_part att_part (codes "att(") att_of row_text IsRow (λ t h. att_spelled t) (λ t h. (h.0, h.1.0, h.1.1.0, h.1.1.1.1.0)),
    (
      behind_part def_part (codes "def(") def_of row_text IsRow (λ t h. def_spelled t) (λ t h. (h.0, h.1.0, h.1.1.0, h.1.1.1)),
      (
        behind_part ind_part (codes "ind(") ind_of row_text IsRow (λ t h. ind_spelled t) (λ t h. (h.0, h.1.0, h.1.1.1)),
        (
          behind_part con_part (codes "con(") con_of row_text IsRow (λ t h. con_spelled t) (λ t h. (h.0, h.1.0, h.1.1.0, h.1.1.1)),
          (
            behind_part trg_part (codes "trg(") trg_of row_text IsRow (λ t h. trg_spelled t) (λ t h. (h.0, h.1.0, h.1.1.0)),
            tt,
          ),
        ),
      ),
    ),
  ),
)

row_again : (row : Row) (rest : List ℕ) → IsRow row → row_at (row_text row ++ rest) ≡ Some (row, rest)
unfolding row_at lit_at class_at att_at def_at ind_at con_at trg_at
row_again (rows.Class oid name kind fill) rest is =
    let t : ℕ × (List ℕ × (Kind × Option ℕ)) = (oid.0, (name, (kind, fill))) in
    ap (λ l. row_at (l ++ rest)) (class_spelled t) ∙ again_part class_part class_of t rest (is.0, (is.1, (tt, is.2))) tt
row_again (rows.Att rel num name col_type stat live) rest is =
    let t : ℕ × (ℕ × (List ℕ × (ColType × (ℤ × Bool)))) = (rel.0, (num, (name, (col_type, (stat, live))))) in
    ap (λ l. row_at (l ++ rest)) (att_spelled t) ∙ again_part att_part att_of t rest (is.0, (is.1, (is.2, (tt, (is.3, tt))))) tt
row_again (rows.Def oid rel num word) rest is =
    let t : ℕ × (ℕ × (ℕ × List ℕ)) = (oid.0, (rel.0, (num, word))) in
    ap (λ l. row_at (l ++ rest)) (def_spelled t) ∙ again_part def_part def_of t rest (is.0, (is.1, (is.2, is.3))) tt
row_again (rows.Ind index table state nums) rest is =
    let t : ℕ × (ℕ × (IndexState × List ℕ)) = (index.0, (table.0, (state, nums))) in
    ap (λ l. row_at (l ++ rest)) (ind_spelled t) ∙ again_part ind_part ind_of t rest (is.0, (is.1, (tt, is.2))) tt
row_again (rows.Con oid rel name valid what) rest is =
    let t : ℕ × (ℕ × (List ℕ × (Bool × ConKind))) = (oid.0, (rel.0, (name, (valid, what)))) in
    ap (λ l. row_at (l ++ rest)) (con_spelled t) ∙ again_part con_part con_of t rest (is.0, (is.1, (is.2, is.3))) tt
row_again (rows.Trg oid rel name on) rest is =
    let t : ℕ × (ℕ × (List ℕ × Bool)) = (oid.0, (rel.0, (name, on))) in
    ap (λ l. row_at (l ++ rest)) (trg_spelled t) ∙ again_part trg_part trg_of t rest (is.0, (is.1, (is.2, tt))) tt

pub row_spells : Spells row_text IsRow Any row_at
row_spells = record { takes = row_behind.takes; again = λ row rest is end. row_again row rest is }

abbrev pub row_part : Part Row
row_part = record { text = row_text; Is = IsRow; Ends = Any; read = row_at; spells = row_spells }

-- ---- keys

abbrev one_part : Part ℕ
one_part = closed_part number_part (λ rest. refl)

abbrev two_part : Part (ℕ × ℕ)
two_part = comma_part number_part (λ rest. refl) one_part

key_att_spelled : (t : ℕ × ℕ) → key_text (key_att_of t) ≡ codes "att(" ++ two_part.text t
key_att_spelled t = simp append_assoc

key_behind : Behind [] key_text IsKey key_at
unfolding key_at
key_behind = choose_behind key_text IsKey key_cases (
  behind_part one_part (codes "class(") key_class_of key_text IsKey (λ n h. refl) (λ n h. h),
  (
    behind_part two_part (codes "att(") key_att_of key_text IsKey (λ t h. key_att_spelled t) (λ t h. (h.0, h.1)),
    (
      behind_part one_part (codes "def(") key_def_of key_text IsKey (λ n h. refl) (λ n h. h),
      (
        behind_part one_part (codes "ind(") key_ind_of key_text IsKey (λ n h. refl) (λ n h. h),
        (
          behind_part one_part (codes "con(") key_con_of key_text IsKey (λ n h. refl) (λ n h. h),
          (
            behind_part one_part (codes "trg(") key_trg_of key_text IsKey (λ n h. refl) (λ n h. h),
            tt,
          ),
        ),
      ),
    ),
  ),
)

key_again : (key : RowKey) (rest : List ℕ) → IsKey key → key_at (key_text key ++ rest) ≡ Some (key, rest)
unfolding key_at lit_at
key_again (keys.Class oid) rest is = again_part one_part key_class_of oid.0 rest is tt
key_again (keys.Att rel num) rest is = ap (λ l. key_at (l ++ rest)) (key_att_spelled (rel.0, num)) ∙ again_part two_part key_att_of (rel.0, num) rest (is.0, is.1) tt
key_again (keys.Def oid) rest is = again_part one_part key_def_of oid.0 rest is tt
key_again (keys.Ind oid) rest is = again_part one_part key_ind_of oid.0 rest is tt
key_again (keys.Con oid) rest is = again_part one_part key_con_of oid.0 rest is tt
key_again (keys.Trg oid) rest is = again_part one_part key_trg_of oid.0 rest is tt

pub key_spells : Spells key_text IsKey Any key_at
key_spells = record { takes = key_behind.takes; again = λ key rest is end. key_again key rest is }

abbrev pub key_part : Part RowKey
key_part = record { text = key_text; Is = IsKey; Ends = Any; read = key_at; spells = key_spells }
