-- What a plan wants is what its step wants.
use Rattle.std.proofs.Common.{◌≡◌, refl}
use Rattle.ddl_effect.specs.Plans.{Plan, Done, Fails, Absent, Do, Lookup, Open, Search, Read, Lock, Write}
use Rattle.ddl_effect.specs.Replays.{step_of}
use Rattle.ddl_effect.specs.Stages.{want_of, want_at}

pub want_is : (plan : Plan) → want_at (step_of plan) ≡ want_of plan
want_is (Done told) = refl
want_is (Fails error) = refl
want_is (Absent name) = refl
want_is (Do (Lookup name mode) rest) = refl
want_is (Do (Open rel kind) rest) = refl
want_is (Do (Search scan) rest) = refl
want_is (Do (Read scan) rest) = refl
want_is (Do (Lock rel mode) rest) = refl
want_is (Do (Write draft) rest) = refl
