-- What the gates of a run were asked, by how the call ended.
use Rattle.std.specs.Prelude.{⊤}
use Rattle.std.proofs.Common.{ℕ, Result, Ok, Err, List, [], ◌∷◌}
use Rattle.base_types.specs.Scenario.{Scenario}
use Rattle.edge_io.specs.declared.gates.Asked.{Asked}
use Rattle.thread_run.specs.Asks.{AsksBy, AskedEach}
use Rattle.thread_run.specs.declared.refusal.RunRefusal.{RunRefusal}
use Rattle.thread_run.specs.declared.running.Ran.{Ran}

-- what each was asked rests on whether the work ended well, and not on what it gave
each_asked : {T E U F : Type 0} (one : Result T E) (two : Result U F) → ((b n : ℕ) (old new : List Asked) → AsksBy one b n old new → AsksBy two b n old new)
    → (script : Scenario) (ns : List ℕ) (xs ys : List (List Asked)) → AskedEach one script ns xs ys → AskedEach two script ns xs ys
each_asked one two more script [] xs ys same = same
each_asked one two more script (n ∷ ns) (x ∷ xs) (y ∷ ys) asks = (more n _ x y asks.0, each_asked one two more script ns xs ys asks.1)
each_asked one two more script (n ∷ ns) [] ys asks = absurd asks
each_asked one two more script (n ∷ ns) (x ∷ xs) [] asks = absurd asks

pub asked_well : (ran : Ran) (script : Scenario) (ns : List ℕ) (xs ys : List (List Asked)) → AskedEach {T = Ran} {E = RunRefusal} (Ok ran) script ns xs ys → AskedEach {T = ⊤} {E = ⊤} (Ok tt) script ns xs ys
asked_well ran = each_asked {T = Ran} {E = RunRefusal} {U = ⊤} {F = ⊤} (Ok ran) (Ok tt) (λ b n old new asks. asks)

pub asked_some : (refusal : RunRefusal) (script : Scenario) (ns : List ℕ) (xs ys : List (List Asked)) → AskedEach {T = Ran} {E = RunRefusal} (Err refusal) script ns xs ys → AskedEach {T = ⊤} {E = ⊤} (Err tt) script ns xs ys
asked_some refusal = each_asked {T = Ran} {E = RunRefusal} {U = ⊤} {F = ⊤} (Err refusal) (Err tt) (λ b n old new asks. asks)
