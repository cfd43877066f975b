use Rattle.std.proofs.Common.{◌≡◌, true, false, List, ℕ, [], refl, sym, ◌∙◌, subst, inl, inr}
use Rattle.mdbox_base.specs.Streams.{Appended}
use Rattle.mdbox_base.specs.declared.replies.Reply.{Reply}
use Rattle.piece_writer.specs.Pieces.{WritesPrefix}
use Rattle.session.specs.OneRequest.{IsAnsweredAndTold, IsUnderWay}
use Rattle.session.proofs.OneLemmas.{before_as, longer_as, no_lack, one_answered, told_as}
use Rattle.session.proofs.TellLemmas.{one_more}
use Rattle.session.proofs.one.serve_one.Goals as goal

pub returns-in_default-answer_all-clause-err : goal.returns-in_default-answer_all-clause-err
returns-in_default-answer_all-clause-err g c =
    let goes = c.answer_all.ensures.goes in
    inl (inr (record { lanes = goes.0; goes = (c.ask.new.self, c.in-Ok-ask.ensures.ok.1, goes.1) }), refl)

pub unreachable-requires : goal.unreachable-requires
unreachable-requires g c =
    let goes = c.answer_all.ensures.goes in
    let ask = c.in-Ok-ask.ensures.ok in
    let u : IsUnderWay g.D.Disk.history g.D.Disk.faults c.args.asked c.args.world.now c.answer_all.new.self = record { lanes = goes.0; goes = (c.ask.new.self, ask.1, goes.1) } in
    let each = c.idle_worlds_have_replied.ensures c.answer_all.new.self _ c.known_facts.ensures c.in-Ok-answer_all.ensures.idle in
    no_lack c.args.world.now c.answer_all.new.self c.in-Ok-ask.place c.replies.result.now c.index-replies-place.result (one_more g.D.Disk.history g.D.Disk.faults c.args.asked c.args.world.now c.answer_all.new.self c.requires.waiting.replied u) each ask.0 c.replies.ensures c.index-replies-place.is c.in_default-replies.is

pub print_answer-requires-clause-within : goal.print_answer-requires-clause-within
print_answer-requires-clause-within g c =
    let goes = c.answer_all.ensures.goes in
    let u : IsUnderWay g.D.Disk.history g.D.Disk.faults c.args.asked c.args.world.now c.answer_all.new.self = record { lanes = goes.0; goes = (c.ask.new.self, c.in-Ok-ask.ensures.ok.1, goes.1) } in
    longer_as c.args.world.now c.answer_all.new.self c.journal-before.result.now c.journal.result.now (one_more g.D.Disk.history g.D.Disk.faults c.args.asked c.args.world.now c.answer_all.new.self c.requires.waiting.replied u) c.journal-before.ensures c.journal.ensures

pub print_answer-requires-clause-own : goal.print_answer-requires-clause-own
print_answer-requires-clause-own g c =
    let goes = c.answer_all.ensures.goes in
    let ask = c.in-Ok-ask.ensures.ok in
    let u : IsUnderWay g.D.Disk.history g.D.Disk.faults c.args.asked c.args.world.now c.answer_all.new.self = record { lanes = goes.0; goes = (c.ask.new.self, ask.1, goes.1) } in
    before_as c.args.world.now c.answer_all.new.self c.journal-before.result.now c.journal.result.now c.in-Ok-ask.place (one_more g.D.Disk.history g.D.Disk.faults c.args.asked c.args.world.now c.answer_all.new.self c.requires.waiting.replied u) c.requires.waiting.own ask.0 c.journal-before.ensures c.journal.ensures

pub returns-in-Ok-print_answer-clause-err : goal.returns-in-Ok-print_answer-clause-err
returns-in-Ok-print_answer-clause-err g c =
    let goes = c.answer_all.ensures.goes in
    let ask = c.in-Ok-ask.ensures.ok in
    let old = c.args.world.now in
    let new = c.answer_all.new.self in
    let u : IsUnderWay g.D.Disk.history g.D.Disk.faults c.args.asked old new = record { lanes = goes.0; goes = (c.ask.new.self, ask.1, goes.1) } in
    let each = c.idle_worlds_have_replied.ensures new _ c.known_facts.ensures c.in-Ok-answer_all.ensures.idle in
    subst (λ (r : Reply). IsAnsweredAndTold g.D.Disk.history g.D.Disk.faults c.args.asked old new (g.O.Sink.held c.args.output.now) (g.O.Sink.held c.print_answer.new.output) r) (c.is_stopped.ensures.0 c.if-is_stopped.true)
    (record {
      answered = one_answered g.D.Disk.history g.D.Disk.faults c.args.asked old new c.in-Ok-ask.place c.replies.result.now c.index-replies-place.result c.in-Some.given c.requires.waiting u c.in-Ok-answer_all.ensures.idle each ask.0 c.replies.ensures c.index-replies-place.is c.in-Some.is;
      printed = told_as (λ (t : List ℕ). Appended (g.O.Sink.held c.args.output.now) t (g.O.Sink.held c.print_answer.new.output)) old new c.journal.result.now c.in-Ok-ask.place c.in-Some.given ask.0 c.journal.ensures c.in-Ok-print_answer.ensures.ok;
    })

pub returns-in-Ok-2-clause-ok : goal.returns-in-Ok-2-clause-ok
returns-in-Ok-2-clause-ok g c =
    let goes = c.answer_all.ensures.goes in
    let ask = c.in-Ok-ask.ensures.ok in
    let old = c.args.world.now in
    let new = c.answer_all.new.self in
    let u : IsUnderWay g.D.Disk.history g.D.Disk.faults c.args.asked old new = record { lanes = goes.0; goes = (c.ask.new.self, ask.1, goes.1) } in
    let each = c.idle_worlds_have_replied.ensures new _ c.known_facts.ensures c.in-Ok-answer_all.ensures.idle in (
      c.in-Some.given,
      record {
        answered = one_answered g.D.Disk.history g.D.Disk.faults c.args.asked old new c.in-Ok-ask.place c.replies.result.now c.index-replies-place.result c.in-Some.given c.requires.waiting u c.in-Ok-answer_all.ensures.idle each ask.0 c.replies.ensures c.index-replies-place.is c.in-Some.is;
        printed = told_as (λ (t : List ℕ). Appended (g.O.Sink.held c.args.output.now) t (g.O.Sink.held c.print_answer.new.output)) old new c.journal.result.now c.in-Ok-ask.place c.in-Some.given ask.0 c.journal.ensures c.in-Ok-2.ensures.ok;
      },
      λ stopped. let k : true ≡ false = sym (c.is_stopped.ensures.1 stopped) ∙ c.if-is_stopped.false in cc k,
    )

pub returns-in-Err-NoMemory-clause-err : goal.returns-in-Err-NoMemory-clause-err
returns-in-Err-NoMemory-clause-err g c =
    let goes = c.answer_all.ensures.goes in
    let ask = c.in-Ok-ask.ensures.ok in
    let old = c.args.world.now in
    let new = c.answer_all.new.self in
    let u : IsUnderWay g.D.Disk.history g.D.Disk.faults c.args.asked old new = record { lanes = goes.0; goes = (c.ask.new.self, ask.1, goes.1) } in
    let each = c.idle_worlds_have_replied.ensures new _ c.known_facts.ensures c.in-Ok-answer_all.ensures.idle in
    inr (
      c.in-Some.given,
      one_answered g.D.Disk.history g.D.Disk.faults c.args.asked old new c.in-Ok-ask.place c.replies.result.now c.index-replies-place.result c.in-Some.given c.requires.waiting u c.in-Ok-answer_all.ensures.idle each ask.0 c.replies.ensures c.index-replies-place.is c.in-Some.is,
      told_as (λ (t : List ℕ). WritesPrefix (g.O.Sink.held c.args.output.now) [] t (g.O.Sink.held c.print_answer.new.output)) old new c.journal.result.now c.in-Ok-ask.place c.in-Some.given ask.0 c.journal.ensures c.in-Err-NoMemory.ensures.err,
    )

pub returns-in-Err-WriteFault-clause-err : goal.returns-in-Err-WriteFault-clause-err
returns-in-Err-WriteFault-clause-err g c =
    let goes = c.answer_all.ensures.goes in
    let ask = c.in-Ok-ask.ensures.ok in
    let old = c.args.world.now in
    let new = c.answer_all.new.self in
    let u : IsUnderWay g.D.Disk.history g.D.Disk.faults c.args.asked old new = record { lanes = goes.0; goes = (c.ask.new.self, ask.1, goes.1) } in
    let each = c.idle_worlds_have_replied.ensures new _ c.known_facts.ensures c.in-Ok-answer_all.ensures.idle in (
      c.in-Some.given,
      one_answered g.D.Disk.history g.D.Disk.faults c.args.asked old new c.in-Ok-ask.place c.replies.result.now c.index-replies-place.result c.in-Some.given c.requires.waiting u c.in-Ok-answer_all.ensures.idle each ask.0 c.replies.ensures c.index-replies-place.is c.in-Some.is,
      told_as (λ (t : List ℕ). WritesPrefix (g.O.Sink.held c.args.output.now) [] t (g.O.Sink.held c.print_answer.new.output)) old new c.journal.result.now c.in-Ok-ask.place c.in-Some.given ask.0 c.journal.ensures c.in-Err-WriteFault.ensures.err,
    )
