-- What a gathering sink holds, and what its sink has taken.
use Rattle.std.proofs.Common.{◌≡◌, ℕ, zero, suc, ◌+◌, ◌-◌, ◌<◌, ◌≤◌, ◌==◌, true, false, List, [], ◌++◌, length, take, drop, Option, None, Some, Result, Ok, Err, refl, sym, ap, ◌∙◌, subst, OnOk, zero-add, append_assoc, append-nil, length-drop, arith}
use Rattle.std.proofs.lemmas.List.{drop-take, append_cancel_left, length-take-le}
use Rattle.std.proofs.lemmas.List.Edits.{take-paste}
use Rattle.std.proofs.Math.Seq.{paste}
use Rattle.std.proofs.lemmas.Bool.{false≢true}
use Rattle.std.proofs.lemmas.Bool.Decides.{Decides-eqb}
use Rattle.std.proofs.lemmas.Slice.Eq.{starts_is}
use Rattle.std.specs.List.{copy_within}
use Rattle.std.specs.Io.KnownBytes.{append_known}
use Rattle.edge_io.specs.Taken.{Grows, Stays, GrowsByFront, Sends}
use Rattle.edge_io.proofs.Sending.{grows_stays, front_all, front_first, sends_then, part_front}
use Rattle.edge_io.specs.Gathered.{begins, Gathered, Stood, Gathers, Flushes, told_by}

-- bytes that move to the start
pub moved : (bytes : List ℕ) (len count : ℕ) → count ≤ len → len ≤ length bytes → take (len - count) (copy_within bytes count len 0) ≡ drop count (take len bytes)
moved bytes len count within fits =
    let rest = len - count in
    let whole : count + rest ≡ len = omega arith in
    let pasted : take (0 + rest) (paste bytes 0 (drop count bytes) rest) ≡ take rest (drop count bytes) =
    take-paste bytes 0 (drop count bytes) rest (omega arith) (omega (arith, length-drop count bytes)) in
    ap (λ n. take n (paste bytes 0 (drop count bytes) rest)) (sym (zero-add rest)) ∙ pasted ∙ sym (drop-take count rest bytes) ∙ ap (λ n. drop count (take n bytes)) whole

-- what is held after its first bytes were let go
pub let_go_of : (bytes new held : List ℕ) (len count : ℕ) → take len bytes ≡ held → count ≤ length held → len ≤ length bytes → new ≡ copy_within bytes count len 0
    → take (len - count) new ≡ drop count held
let_go_of bytes new held len count is within fits moves =
    let long : length held ≡ len = ap length (sym is) ∙ length-take-le len bytes fits in
    ap (take (len - count)) moves ∙ moved bytes len count (omega arith) fits ∙ ap (drop count) is

-- less is held after some of its first bytes were let go
pub held_shorter : (held piece new : List ℕ) (count : ℕ) → piece ≡ held → new ≡ drop count held → (0 < length piece → 0 < count) → false ≡ (length held == 0) → length new < length held
held_shorter held piece new count same is some more =
    let long : 0 < length held = by (length held) more in
    let taken : 0 < count = some (subst (λ l. 0 < length l) (sym same) long) in
    let shorter = ap length is ∙ length-drop count held in
    omega (arith, long, taken, shorter)
  where
    by : (n : ℕ) → false ≡ (n == 0) → 0 < n
    by zero never = absurd (false≢true never)
    by (suc n) other = omega arith

-- what a gathering sink tells stays where nothing is done
pub told_stays : (a : Option (List ℕ)) → Stays a a
told_stays None = tt
told_stays (Some x) = refl

-- where bytes begin with others, the rest follows
begins_parts : (x y : List ℕ) → begins (Some x) (Some y) ≡ true → y ≡ x ++ drop (length x) y
begins_parts x y p = (starts_is Decides-eqb y x (begins (Some x) (Some y)) refl).0 p

begins_from : (x y rest : List ℕ) → y ≡ x ++ rest → begins (Some x) (Some y) ≡ true
begins_from x y rest e = (starts_is Decides-eqb y x (begins (Some x) (Some y)) refl).1 rest e

pub begins_same : (a : Option (List ℕ)) → begins a a ≡ true
begins_same None = refl
begins_same (Some x) = begins_from x x [] (sym (append-nil x))

pub begins_then : (a b c : Option (List ℕ)) → begins a b ≡ true → begins b c ≡ true → begins a c ≡ true
begins_then a b None p q = refl
begins_then a None (Some z) p q = absurd (false≢true q)
begins_then None (Some y) (Some z) p q = absurd (false≢true p)
begins_then (Some x) (Some y) (Some z) p q =
    let rest = drop (length x) y in
    let more = drop (length y) z in
    begins_from x z (rest ++ more) (begins_parts y z q ∙ ap (λ l. l ++ more) (begins_parts x y p) ∙ append_assoc x rest more)

-- what its sink has taken is a prefix of what the gathering sink tells
pub front_behind : (a b : Option (List ℕ)) (held text : List ℕ) → begins a b ≡ true → GrowsByFront a (append_known b held) text → GrowsByFront a b text
front_behind a None held text p q = record { front = []; rest = text; parts = refl; grows = tt }
front_behind None (Some y) held text p q = absurd (false≢true p)
front_behind (Some x) (Some y) held text p q =
    let more = drop (length x) y in
    let whole = begins_parts x y p in
    let same : more ++ held ≡ q.front =
    append_cancel_left x (more ++ held) q.front (sym (append_assoc x more held) ∙ ap (λ l. l ++ held) (sym whole) ∙ q.grows) in
    record {
      front = more;
      rest = held ++ q.rest;
      parts = q.parts ∙ ap (λ l. l ++ q.rest) (sym same) ∙ append_assoc more held q.rest;
      grows = whole;
    }

-- where nothing is held, what is told is what was taken
pub told_nothing_held : (a : Option (List ℕ)) → append_known a [] ≡ a
told_nothing_held None = refl
told_nothing_held (Some x) = ap Some (append-nil x)

-- where nothing is held any more, its sink has taken all
pub grows_behind : (a b : Option (List ℕ)) (text : List ℕ) → Grows a (append_known b []) text → Grows a b text
grows_behind a None text p = tt
grows_behind None (Some y) text p = absurd p
grows_behind (Some x) (Some y) text p = sym (append-nil y) ∙ p

-- at the start nothing has changed
pub stood_at_first : (a : Gathered) → Stood a a
stood_at_first a = record { same = refl; grows = begins_same a.behind }

pub stood_then : (a b c : Gathered) → Stood a b → Stood b c → Stood a c
stood_then a b c p q = record { same = q.same ∙ p.same; grows = begins_then a.behind b.behind c.behind p.grows q.grows }

pub flushes_at_first : (a : Gathered) → Flushes a a
flushes_at_first a = record { stood = stood_at_first a; told = told_stays (told_by a) }

-- the sink failed after a part of a text
pub gathers_front : {T E : Type 0} (a b c : Gathered) (result : Result T E) (error : E) (text : List ℕ) (i : ℕ) → result ≡ Err error → Stood a b → Stood b c
    → Grows (told_by a) (told_by b) (take i text) → Stays (told_by b) (told_by c) → Gathers a c result text
gathers_front a b c result error text i e p q sent stays =
    let front = part_front (told_by a) (told_by b) (told_by c) text i sent stays in
    record { stood = stood_then a b c p q; sent = rw e front }

-- a text was gathered from the start, and the sink failed: what it has taken at last
pub front_of_failed : {S T D E K : Type 0} (taken : K → Option (List ℕ)) (a b : Gathered) (first behind last : K) (before : Result S D) (result : Result T E) (fault : D) (error : E) (text : List ℕ)
    → a.held ≡ [] → a.behind ≡ taken first → b.behind ≡ taken behind → before ≡ Err fault → result ≡ Err error → Gathers a b before text → behind ≡ last → Sends (taken first) (taken last) result text
front_of_failed taken a b first behind last before result fault error text empty began now e f p same =
    let told : told_by a ≡ a.behind = ap (append_known a.behind) empty ∙ told_nothing_held a.behind in
    let sent : GrowsByFront (told_by a) (told_by b) text = rw e at p.sent in
    let front : GrowsByFront a.behind b.behind text =
    front_behind a.behind b.behind b.held text p.stood.grows (subst (λ t. GrowsByFront t (told_by b) text) told sent) in
    let from_first : GrowsByFront (taken first) b.behind text = subst (λ t. GrowsByFront t b.behind text) began front in
    let to_last : GrowsByFront (taken first) (taken last) text = subst (λ t. GrowsByFront (taken first) t text) (now ∙ ap taken same) from_first in
    rw f to_last

ended : {T E : Type 0} (a c : Option (List ℕ)) (held : List ℕ) (result : Result T E) (text : List ℕ) → begins a c ≡ true → Grows a (append_known c held) text → OnOk result (held ≡ []) → Sends a c result text
ended a c held (Ok value) text p grown all = grows_behind a c text (subst (λ h. Grows a (append_known c h) text) all grown)
ended a c held (Err error) text p grown all = front_behind a c held text p (front_all a (append_known c held) text grown)

-- a text was gathered from the start, and then what was held was handed on, or a prefix of it
sent_to : {T E U : Type 0} (a b c : Gathered) (before : Result T E) (value : T) (result : Result U E) (text : List ℕ) → a.held ≡ [] → before ≡ Ok value → Gathers a b before text → Flushes b c → OnOk result (c.held ≡ [])
    → Sends a.behind c.behind result text
sent_to a b c before value result text empty e p q all =
    let told : told_by a ≡ a.behind = ap (append_known a.behind) empty ∙ told_nothing_held a.behind in
    let sent : Grows (told_by a) (told_by b) text = rw e at p.sent in
    let grown : Grows a.behind (told_by c) text = subst (λ t. Grows t (told_by c) text) told (grows_stays (told_by a) (told_by b) (told_by c) text sent q.told) in
    let stood : Stood a c = stood_then a b c p.stood q.stood in
    ended a.behind c.behind c.held result text stood.grows grown all

-- the same: what its sink has taken at last
pub sent_behind : {S T D K : Type 0} (taken : K → Option (List ℕ)) (a b c : Gathered) (first behind last : K) (before : Result S D) (value : S) (result : Result T D) (text : List ℕ) → a.held ≡ [] → a.behind ≡ taken first
    → c.behind ≡ taken behind → before ≡ Ok value → Gathers a b before text → Flushes b c → OnOk result (c.held ≡ []) → behind ≡ last → Sends (taken first) (taken last) result text
sent_behind taken a b c first behind last before value result text empty began now e p q all same =
    let sent : Sends a.behind c.behind result text = sent_to a b c before value result text empty e p q all in
    let from_first : Sends (taken first) c.behind result text = subst (λ t. Sends t c.behind result text) began sent in
    subst (λ t. Sends (taken first) t result text) (now ∙ ap taken same) from_first

-- a text was gathered, and then the result of gathering another
pub gathers_then : {S T E : Type 0} (a b c : Gathered) (before : Result S E) (value : S) (result : Result T E) (first second : List ℕ) → before ≡ Ok value → Gathers a b before first → Gathers b c result second
    → Gathers a c result (first ++ second)
gathers_then a b c before value result first second e p q =
    let sent : Grows (told_by a) (told_by b) first = rw e at p.sent in
    record {
      stood = stood_then a b c p.stood q.stood;
      sent = sends_then (told_by a) (told_by b) (told_by c) result first second sent q.sent;
    }

-- the first of two texts failed
pub gathers_first : {S T D E : Type 0} (a b : Gathered) (before : Result S D) (result : Result T E) (fault : D) (error : E) (first second : List ℕ) → before ≡ Err fault → result ≡ Err error → Gathers a b before first
    → Gathers a b result (first ++ second)
gathers_first a b before result fault error first second e f p =
    let front : GrowsByFront (told_by a) (told_by b) first = rw e at p.sent in
    record { stood = p.stood; sent = rw f (front_first (told_by a) (told_by b) first second front) }
