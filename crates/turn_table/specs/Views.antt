-- What a seat knows: its view.
use Rattle.std.specs.Prelude.{◌≡◌, ◌≢◌, ◌⊎◌, ⊤, ℕ, List, [], ◌∷◌, ◌++◌, length, Bool, false, Option, None}
use Rattle.std.specs.List.{AllByRecursion}
use Rattle.atomic_table.specs.Table.{Me}
use Rattle.turn_table.specs.declared.view.Setup.{Setup}
use Rattle.turn_table.specs.declared.view.Part.{Part}
use Rattle.turn_table.specs.declared.view.Opened.{Opened}
use Rattle.turn_table.specs.declared.view.Stage.{Stage}
use Rattle.turn_table.specs.declared.view.Stage.TheVariants.{Resting, Drawn, InTurn}
use Rattle.turn_table.specs.declared.view.View.{View}

-- the list has one element
abbrev pub One : {A : Type 0} → List A → Type 0
One {A} xs = (x : A) × (xs ≡ x ∷ [])

module _ {V E : Type 0} where
  -- values of these types
  abbrev pub view_of : Stage V E → List (Part V E) → View V E
  view_of stage parts = record { stage = stage; parts = parts }

  abbrev pub part : Setup V → ℕ → List E → ℕ → Bool → Part V E
  part setup seat seen room told = record { setup = setup; seat = seat; seen = seen; room = room; told = told }

  abbrev pub opened : V → List ℕ → List (List E) → Opened V E
  opened value words noted = record { value = value; words = words; noted = noted }

  -- how many tickets the view has
  abbrev pub tickets_in : Stage V E → ℕ
  tickets_in Resting = 0
  tickets_in (Drawn t) = 1
  tickets_in (InTurn o) = 1

  abbrev pub tickets : View V E → ℕ
  tickets d = tickets_in d.stage

  -- for how many seats it stands
  abbrev pub places : View V E → ℕ
  places d = length d.parts

  abbrev pub IsInTurn : Stage V E → Type 0
  IsInTurn (InTurn o) = ⊤
  IsInTurn _ = ⊥

  abbrev pub front : List (Part V E) → List (Part V E)
  front [] = []
  front (p ∷ ps) = p ∷ []

  abbrev pub others : List (Part V E) → List (Part V E)
  others [] = []
  others (p ∷ ps) = ps

  -- how a view is split: the first part, and the others
  abbrev pub first_part : View V E → View V E
  first_part d = view_of Resting (front d.parts)

  abbrev pub other_parts : View V E → View V E
  other_parts d = view_of Resting (others d.parts)

  -- how two views are joined, and what is left of the second
  abbrev pub both_parts : View V E → View V E → View V E
  both_parts d e = view_of Resting (d.parts ++ e.parts)

  abbrev pub spent : View V E
  spent = view_of Resting []

  -- none of the parts is of the seat
  abbrev pub NoSeat : ℕ → List (Part V E) → Type 0
  NoSeat k ps = AllByRecursion (λ p. p.seat ≢ k) ps

  -- no two parts are of one seat
  abbrev pub Distinct : List (Part V E) → Type 0
  Distinct [] = ⊤
  Distinct (p ∷ ps) = NoSeat p.seat ps × Distinct ps

  -- what the one part says
  abbrev pub seat_in : List (Part V E) → ℕ
  seat_in [] = 0
  seat_in (p ∷ ps) = p.seat

  abbrev pub seen_in : List (Part V E) → List E
  seen_in [] = []
  seen_in (p ∷ ps) = p.seen

  abbrev pub room_in : List (Part V E) → ℕ
  room_in [] = 0
  room_in (p ∷ ps) = p.room

  abbrev pub told_in : List (Part V E) → Bool
  told_in [] = false
  told_in (p ∷ ps) = p.told

  -- what an open turn says
  abbrev pub words_in : Stage V E → List ℕ
  words_in (InTurn o) = o.words
  words_in _ = []

  abbrev pub noted_in : Stage V E → List (List E)
  noted_in (InTurn o) = o.noted
  noted_in _ = []

  -- how the table of each part was set up
  abbrev pub setups : List (Part V E) → List (Setup V)
  setups [] = []
  setups (p ∷ ps) = p.setup ∷ setups ps

  -- at rest, with no slot in hand
  abbrev pub at_rest : Me (Option V) (View V E) → Me (Option V) (View V E)
  at_rest m = (view_of Resting m.0.parts, [])

  -- in a turn that was opened with the value v, with the empty slot in hand
  abbrev pub in_turn : V → Me (Option V) (View V E) → Me (Option V) (View V E)
  in_turn v m = (view_of (InTurn (opened v (words_in m.0.stage) (noted_in m.0.stage))) m.0.parts, (0, None) ∷ [])

  -- the part is one of these
  abbrev pub IsIn : Part V E → List (Part V E) → Type 0
  IsIn p [] = ⊥
  IsIn p (q ∷ qs) = (q ≡ p) ⊎ IsIn p qs

  abbrev pub AllIn : List (Part V E) → List (Part V E) → Type 0
  AllIn ps qs = AllByRecursion (λ p. IsIn p qs) ps
