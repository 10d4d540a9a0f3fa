-- What a walk leaves, where memory was refused too.
use Rattle.std.proofs.Common.{◌≡◌, ◌≢◌, ◌≤◌, ◌∙◌, ◌++◌, ◌∷◌, ◌⊎◌, inl, inr, ◌==◌, ℕ, true, false, Some, max, List, [], Result, Ok, Err, OnOk, OnErr, refl, sym, ap, subst, slice_get, append_assoc, append-nil, arith}
use Rattle.std.proofs.lemmas.Bool.Decides.{eqb_tells}
use Rattle.base_types.specs.Scenario.{Scenario, IsBackend}
use Rattle.event_kinds.specs.declared.entry.Entry.{Entry}
use Rattle.history_model.specs.Prefixes.{EachEntry}
use Rattle.history_model.proofs.Prefixes.{EachEntry-more}
use Rattle.cacheless.specs.MayEnter.{MayEnter}
use Rattle.cacheless.specs.Schedule.{FollowsSchedule, turns_left}
use Rattle.backend_core.specs.declared.backend.Backend.{Backend}
use Rattle.backend_core.specs.Agrees.{Stands}
use Rattle.backend_core.specs.Places.{WantsPlaces, PromisesOnly, Wanted}
use Rattle.backend_core.specs.Steps.{MakesEntry, Steps, IsRefused, Before, After}
use Rattle.backend_core.specs.Walked.{IsNotedWalk}
use Rattle.backend_core.proofs.PlacesWanted.{kept_only, wanted_here, only_then}
use Rattle.walk_run.specs.Walks.{AllStand, LeavesWell, FollowsTurn}
use Rattle.walk_run.proofs.NotedWalks.{walked_whole, walked_none}

-- no entry more, or one of this backend that might be made
pub data HasOneAtMost (s : Scenario) (b : ℕ) (h h' : List Entry) : Type 0 where
  NoEntry : h' ≡ h → HasOneAtMost s b h h'
  OneEntry : (e : Entry) → h' ≡ h ++ e ∷ [] → e.backend ≡ b → MayEnter s h e → HasOneAtMost s b h h'

made_one : (s t : Scenario) (h g h' : List Entry) (had has : ℕ → ℕ) (b n : ℕ) → t ≡ s → g ≡ h → n ≡ b → MakesEntry t g h' had has n → HasOneAtMost s b h h'
made_one s t h g h' had has b n script history id makes = OneEntry makes.entry (makes.is ∙ ap (λ x. x ++ makes.entry ∷ []) history) (makes.own ∙ id) (subst (λ x. MayEnter s x makes.entry) history (subst (λ x. MayEnter x g makes.entry) script makes.may))

refused_one : (s t : Scenario) (h g h' : List Entry) (had has : ℕ → ℕ) (b n : ℕ) → t ≡ s → g ≡ h → n ≡ b → IsRefused t g h' had has n → HasOneAtMost s b h h'
refused_one s t h g h' had has b n script history id (Before same) = NoEntry (same.entries ∙ history)
refused_one s t h g h' had has b n script history id (After makes) = made_one s t h g h' had has b n script history id makes

-- of a step, or of what is left of one that was refused memory
pub step_one : {T E : Type 0} (s t : Scenario) (h g h' : List Entry) (had has : ℕ → ℕ) (b : ℕ) (was now : Backend) (result : Result T E) → t ≡ s → g ≡ h → was.progress.id ≡ b
    → OnOk result (Steps t g h' had has was now) → OnErr result (IsRefused t g h' had has was.progress.id) → HasOneAtMost s b h h'
step_one s t h g h' had has b was now (Ok x) script history id steps refused = made_one s t h g h' had has b was.progress.id script history id steps.makes
step_one s t h g h' had has b was now (Err e) script history id steps refused = refused_one s t h g h' had has b was.progress.id script history id refused

-- so the schedule is followed, if it was its turn
pub one_follows : (s : Scenario) (h h' : List Entry) (b : ℕ) → HasOneAtMost s b h h' → FollowsTurn s h h' b
one_follows s h h' b (NoEntry same) = record { follows = λ before turn. subst (FollowsSchedule s) (sym same) before }
one_follows s h h' b (OneEntry e is own may) = record {
  follows = λ before turn. subst (FollowsSchedule s) (sym is) (EachEntry-more (λ seen y. slice_get (turns_left s seen) 0 ≡ Some y.backend) h e before (turn ∙ ap Some (sym own)));
}

-- where it was refused memory
pub refused_follows : {T E : Type 0} (s : Scenario) (h h' : List Entry) (b : ℕ) (result : Result T E) → HasOneAtMost s b h h' → OnErr result (FollowsTurn s h h' b)
refused_follows s h h' b (Ok x) one = tt
refused_follows s h h' b (Err e) one = one_follows s h h' b one

-- only the places of one backend of the script have changed
others_kept : (s : Scenario) (h h' : List Entry) (had has : ℕ → ℕ) (b : ℕ) → ((a : ℕ) → a ≢ b → has a ≡ had a) → PromisesOnly s b h h' (had b) (has b) → (a : ℕ) → PromisesOnly s a h h' (had a) (has a)
others_kept s h h' had has b others own a = of (eqb_tells a b)
  where
    of : (((a == b) ≡ true) × (a ≡ b)) ⊎ (((a == b) ≡ false) × (a ≢ b)) → PromisesOnly s a h h' (had a) (has a)
    of (inl same) = subst (λ n. PromisesOnly s n h h' (had n) (has n)) (sym same.1) own
    of (inr apart) = kept_only (others a apart.1)

-- it leaves well what one entry more leaves, or none
leaves_walked : (s : Scenario) (h h' : List Entry) (had has : ℕ → ℕ) (b : ℕ) → IsBackend s.backends b → EachEntry (MayEnter s) h → IsNotedWalk s h → HasOneAtMost s b h h' → ((a : ℕ) → a ≢ b → has a ≡ had a) → PromisesOnly s b h h' (had b) (has b) → LeavesWell s h h' had has
leaves_walked s h h' had has b number entered noted (NoEntry same) others own = record {
  more = [];
  grows = same ∙ sym (append-nil h);
  entered = subst (EachEntry (MayEnter s)) (sym same) entered;
  walked = record { walked = h; last = []; is = same ∙ sym (append-nil h); one = omega arith; noted = noted };
  others = λ a no. others a (λ is. no (subst (IsBackend s.backends) (sym is) number));
  most = others_kept s h h' had has b others own;
}
leaves_walked s h h' had has b number entered noted (OneEntry e is from may) others own = record {
  more = e ∷ [];
  grows = is;
  entered = subst (EachEntry (MayEnter s)) (sym is) (EachEntry-more (MayEnter s) h e entered may);
  walked = record { walked = h; last = e ∷ []; is = is; one = omega arith; noted = noted };
  others = λ a no. others a (λ same. no (subst (IsBackend s.backends) (sym same) number));
  most = others_kept s h h' had has b others own;
}

pub leaves_of : (s : Scenario) (h h' : List Entry) (bs : List Backend) (had has : ℕ → ℕ) (b : ℕ) → IsBackend s.backends b → AllStand s h bs → HasOneAtMost s b h h' → ((a : ℕ) → a ≢ b → has a ≡ had a) → PromisesOnly s b h h' (had b) (has b) → LeavesWell s h h' had has
leaves_of s h h' bs had has b number stand one others own = leaves_walked s h h' had has b number stand.entered (walked_whole s h bs stand.walked) one others own

-- nothing was done
leaves_still : (s : Scenario) (h : List Entry) (had : ℕ → ℕ) → EachEntry (MayEnter s) h → IsNotedWalk s h → LeavesWell s h h had had
leaves_still s h had entered noted = record {
  more = [];
  grows = sym (append-nil h);
  entered = entered;
  walked = record { walked = h; last = []; is = sym (append-nil h); one = omega arith; noted = noted };
  others = λ a no. refl;
  most = λ a. kept_only refl;
}

pub leaves_same : (s : Scenario) (h : List Entry) (bs : List Backend) (had : ℕ → ℕ) → AllStand s h bs → LeavesWell s h h had had
leaves_same s h bs had stand = leaves_still s h had stand.entered (walked_whole s h bs stand.walked)

-- nor before the first entry
pub leaves_first : (s : Scenario) (h : List Entry) (had : ℕ → ℕ) → h ≡ [] → LeavesWell s h h had had
leaves_first s h had none = leaves_still s h had (subst (EachEntry (MayEnter s)) (sym none) tt) (subst (IsNotedWalk s) (sym none) (walked_none s))

-- and then more
pub leaves_then : (s t : Scenario) (h h' h'' : List Entry) (had mid has : ℕ → ℕ) → t ≡ s → LeavesWell s h h' had mid → LeavesWell t h' h'' mid has → LeavesWell s h h'' had has
leaves_then s t h h' h'' had mid has same first later =
    let second : LeavesWell s h' h'' mid has = subst (λ x. LeavesWell x h' h'' mid has) same later in
    record {
      more = first.more ++ second.more;
      grows = second.grows ∙ ap (λ x. x ++ second.more) first.grows ∙ append_assoc h first.more second.more;
      entered = second.entered;
      walked = second.walked;
      others = λ a no. second.others a no ∙ first.others a no;
      most = λ a. only_then first.more second.more first.grows second.grows (first.most a) (second.most a);
    }

-- what a step, or one that was refused memory, takes of promised places
refused_others : {t : Scenario} {g h' : List Entry} {had has : ℕ → ℕ} {n : ℕ} → IsRefused t g h' had has n → (a : ℕ) → a ≢ n → has a ≡ had a
refused_others (Before same) a apart = same.places a
refused_others (After makes) a apart = makes.others a apart

pub step_others : {T E : Type 0} (t : Scenario) (g h' : List Entry) (first had has : ℕ → ℕ) (b : ℕ) (was now : Backend) (result : Result T E) → was.progress.id ≡ b → ((a : ℕ) → a ≢ b → had a ≡ first a)
    → OnOk result (Steps t g h' had has was now) → OnErr result (IsRefused t g h' had has was.progress.id) → (a : ℕ) → a ≢ b → has a ≡ first a
step_others t g h' first had has b was now (Ok x) id others steps refused a apart = steps.makes.others a (λ same. apart (same ∙ id)) ∙ others a apart
step_others t g h' first had has b was now (Err e) id others steps refused a apart = refused_others refused a (λ same. apart (same ∙ id)) ∙ others a apart

-- of its own places it has no more than were promised
refused_most : {t : Scenario} {g h' : List Entry} {had has : ℕ → ℕ} (n : ℕ) → IsRefused t g h' had has n → has n ≤ had n
refused_most n (Before same) = let kept = same.places n in omega (arith, kept)
refused_most n (After makes) = makes.most

step_fewer : {T E : Type 0} (t : Scenario) (g h' : List Entry) (had has : ℕ → ℕ) (b : ℕ) (was now : Backend) (result : Result T E) → was.progress.id ≡ b → OnOk result (Steps t g h' had has was now) → OnErr result (IsRefused t g h' had has was.progress.id) → has b ≤ had b
step_fewer t g h' had has b was now (Ok x) id steps refused = subst (λ n. has n ≤ had n) id steps.makes.most
step_fewer t g h' had has b was now (Err e) id steps refused = subst (λ n. has n ≤ had n) id (refused_most was.progress.id refused)

wanted_most : (s : Scenario) (h h' : List Entry) (b n : ℕ) (was : Backend) (had has : ℕ) → HasOneAtMost s b h h' → Stands s h was → was.progress.id ≡ b → WantsPlaces was n → has ≤ max had (max n 48) → PromisesOnly s b h h' had has
wanted_most s h h' b n was had has (NoEntry same) stands id wants most = Wanted n (wanted_here [] (same ∙ sym (append-nil h)) stands id wants) most
wanted_most s h h' b n was had has (OneEntry e is own may) stands id wants most = Wanted n (wanted_here (e ∷ []) is stands id wants) most

pub step_most : {T E : Type 0} (s : Scenario) (h : List Entry) (t : Scenario) (g h' : List Entry) (first had has : ℕ → ℕ) (b n : ℕ) (was now : Backend) (result : Result T E) → HasOneAtMost s b h h' → Stands s h was → was.progress.id ≡ b → WantsPlaces was n → had b ≡ max (first b) (max n 2)
    → OnOk result (Steps t g h' had has was now) → OnErr result (IsRefused t g h' had has was.progress.id) → PromisesOnly s b h h' (first b) (has b)
step_most s h t g h' first had has b n was now result one stands id wants promised steps refused = wanted_most s h h' b n was (first b) (has b) one stands id wants (let fewer = step_fewer t g h' had has b was now result id steps refused in omega (arith, promised, fewer))
