use Rattle.std.proofs.Common.{length, refl}
use Rattle.sinval_ring.specs.Readers.{after_fetch}
use Rattle.sinval_ring.specs.Queues.{reader_of}
use Rattle.sinval_ring.specs.RingParts.{wrapped_queue}
use Rattle.sinval_ring.proofs.Keeping.{keeps_reader, view_reader, fetch_number, fetch_kept, read_active, read_at, read_up_to, served_answer, served_gives, reset_answer, reset_gives}
use Rattle.sinval_ring.proofs.ring.Ring.fetch.Goals as goal

pub invariant_of-self : goal.invariant_of-self
invariant_of-self c =
    let r = c.self.inside in
    let q = wrapped_queue r.window r.first.value r.max r.min r.threshold r.readers.items in
    let read = read_active r.window r.first.value r.max r.min r.threshold r.readers.items _ c.args.b c.index-reader.result.now c.self.view_is c.requires.active c.index-reader.ensures in
    keeps_reader r.window r.first.value r.max r.min r.threshold r.readers.items _ c.args.b c.after_fetch.result (after_fetch (length q.log) (reader_of q c.args.b)) c.self.invariant refl
    (fetch_number r.window r.first.value r.max r.min r.threshold r.readers.items c.args.b _ _ c.self.invariant read c.after_fetch.ensures)
    (fetch_kept q c.args.b c.self.invariant.counts.sound)

pub returns-in-At-clause-queue : goal.returns-in-At-clause-queue
returns-in-At-clause-queue c =
    let r = c.self.inside in
    let read = read_active r.window r.first.value r.max r.min r.threshold r.readers.items _ c.args.b c.index-reader.result.now c.self.view_is c.requires.active c.index-reader.ensures in
    view_reader r.window r.first.value r.max r.min r.threshold r.readers.items _ c.args.b c.after_fetch.result (λ q. after_fetch (length q.log) (reader_of q c.args.b)) _ c.self.view_is c.self.invariant refl
    (fetch_number r.window r.first.value r.max r.min r.threshold r.readers.items c.args.b _ _ c.self.invariant read c.after_fetch.ensures)

pub invariant_of-self-2 : goal.invariant_of-self-2
invariant_of-self-2 c =
    let r = c.self.inside in
    let q = wrapped_queue r.window r.first.value r.max r.min r.threshold r.readers.items in
    let read = read_active r.window r.first.value r.max r.min r.threshold r.readers.items _ c.args.b c.index-reader.result.now c.self.view_is c.requires.active c.index-reader.ensures in
    keeps_reader r.window r.first.value r.max r.min r.threshold r.readers.items _ c.args.b c.after_fetch.result (after_fetch (length q.log) (reader_of q c.args.b)) c.self.invariant refl
    (fetch_number r.window r.first.value r.max r.min r.threshold r.readers.items c.args.b _ _ c.self.invariant read c.after_fetch.ensures)
    (fetch_kept q c.args.b c.self.invariant.counts.sound)

pub returns : goal.returns
returns c =
    let r = c.self.inside in
    let read = read_active r.window r.first.value r.max r.min r.threshold r.readers.items _ c.args.b c.index-reader.result.now c.self.view_is c.requires.active c.index-reader.ensures in
    record {
      answer = reset_answer r.window r.first.value r.max r.min r.threshold r.readers.items _ c.args.b _ c.self.invariant c.self.view_is read c.in_default.not-At;
      given = reset_gives r.window r.first.value r.max r.min r.threshold r.readers.items _ c.args.b _ _ c.self.invariant c.self.view_is read c.in_default.not-At c.requires.empty;
      queue = view_reader r.window r.first.value r.max r.min r.threshold r.readers.items _ c.args.b c.after_fetch.result (λ q. after_fetch (length q.log) (reader_of q c.args.b)) _ c.self.view_is c.self.invariant refl
          (fetch_number r.window r.first.value r.max r.min r.threshold r.readers.items c.args.b _ _ c.self.invariant read c.after_fetch.ensures);
    }

pub after_fetch-requires : goal.after_fetch-requires
after_fetch-requires c =
    let r = c.self.inside in
    let read = read_active r.window r.first.value r.max r.min r.threshold r.readers.items _ c.args.b c.index-reader.result.now c.self.view_is c.requires.active c.index-reader.ensures in
    read_up_to r.window r.first.value r.max r.min r.threshold r.readers.items c.args.b _ c.self.invariant read

pub overflow_sub-behind : goal.overflow_sub-behind
overflow_sub-behind c =
    let r = c.self.inside in
    let read = read_active r.window r.first.value r.max r.min r.threshold r.readers.items _ c.args.b c.index-reader.result.now c.self.view_is c.requires.active c.index-reader.ensures in
    (read_at r.window r.first.value r.max r.min r.threshold r.readers.items c.args.b c.in-At.position c.in-At.signaled _ c.self.invariant read c.in-At.is).up

pub copy-requires-clause-within : goal.copy-requires-clause-within
copy-requires-clause-within c =
    let r = c.self.inside in
    let read = read_active r.window r.first.value r.max r.min r.threshold r.readers.items _ c.args.b c.index-reader.result.now c.self.view_is c.requires.active c.index-reader.ensures in
    (read_at r.window r.first.value r.max r.min r.threshold r.readers.items c.args.b c.in-At.position c.in-At.signaled _ c.self.invariant read c.in-At.is).within

pub copy-requires-clause-kept : goal.copy-requires-clause-kept
copy-requires-clause-kept c =
    let r = c.self.inside in
    let read = read_active r.window r.first.value r.max r.min r.threshold r.readers.items _ c.args.b c.index-reader.result.now c.self.view_is c.requires.active c.index-reader.ensures in
    (read_at r.window r.first.value r.max r.min r.threshold r.readers.items c.args.b c.in-At.position c.in-At.signaled _ c.self.invariant read c.in-At.is).kept

pub returns-in-At-clause-answer : goal.returns-in-At-clause-answer
returns-in-At-clause-answer c =
    let r = c.self.inside in
    let read = read_active r.window r.first.value r.max r.min r.threshold r.readers.items _ c.args.b c.index-reader.result.now c.self.view_is c.requires.active c.index-reader.ensures in
    served_answer r.window r.first.value r.max r.min r.threshold r.readers.items _ c.args.b c.in-At.position _ c.in-At.signaled _ c.self.invariant c.self.view_is read c.in-At.is c.min.ensures

pub returns-in-At-clause-given : goal.returns-in-At-clause-given
returns-in-At-clause-given c =
    let r = c.self.inside in
    let read = read_active r.window r.first.value r.max r.min r.threshold r.readers.items _ c.args.b c.index-reader.result.now c.self.view_is c.requires.active c.index-reader.ensures in
    served_gives r.window r.first.value r.max r.min r.threshold r.readers.items _ c.args.b c.in-At.position c.in-At.signaled _ _ c.self.invariant c.self.view_is read c.in-At.is c.copy.ensures
