use Rattle.std.proofs.Common.{inl, inr, refl}
use Rattle.std.proofs.lemmas.Bool.{cases_Bool}
use Rattle.script_text.proofs.FlawLemmas.{copy_begins, counts_begins, delete_begins, deliver_begins, expunge_begins, fetch_begins, flag_begins, keywords_begins, list_begins, make_begins, move_begins, none_begins, purge_begins, refused_by, rename_begins, resync_begins}
use Rattle.script_text.proofs.flaw.begins_verb.Goals as goal

pub returns-then-begins : goal.returns-then-begins
returns-then-begins c = ((λ yes. deliver_begins c.args.text.now (c.begins.ensures.0 c.if-begins.true)), (λ verb. refl))

pub returns-then-begins-2 : goal.returns-then-begins-2
returns-then-begins-2 c = ((λ yes. list_begins c.args.text.now (c.begins-2.ensures.0 c.if-begins-2.true)), (λ verb. refl))

pub returns-then-begins-3 : goal.returns-then-begins-3
returns-then-begins-3 c = ((λ yes. fetch_begins c.args.text.now (c.begins-3.ensures.0 c.if-begins-3.true)), (λ verb. refl))

pub returns-then-begins-4 : goal.returns-then-begins-4
returns-then-begins-4 c = ((λ yes. flag_begins c.args.text.now (c.begins-4.ensures.0 c.if-begins-4.true)), (λ verb. refl))

pub returns-then-begins-5 : goal.returns-then-begins-5
returns-then-begins-5 c = ((λ yes. copy_begins c.args.text.now (c.begins-5.ensures.0 c.if-begins-5.true)), (λ verb. refl))

pub returns-then-begins-6 : goal.returns-then-begins-6
returns-then-begins-6 c = ((λ yes. move_begins c.args.text.now (c.begins-6.ensures.0 c.if-begins-6.true)), (λ verb. refl))

pub returns-then-begins-7 : goal.returns-then-begins-7
returns-then-begins-7 c = ((λ yes. expunge_begins c.args.text.now (c.begins-7.ensures.0 c.if-begins-7.true)), (λ verb. refl))

pub returns-then-begins-8 : goal.returns-then-begins-8
returns-then-begins-8 c = ((λ yes. make_begins c.args.text.now (c.begins-8.ensures.0 c.if-begins-8.true)), (λ verb. refl))

pub returns-then-begins-9 : goal.returns-then-begins-9
returns-then-begins-9 c = ((λ yes. delete_begins c.args.text.now (c.begins-9.ensures.0 c.if-begins-9.true)), (λ verb. refl))

pub returns-then-begins-10 : goal.returns-then-begins-10
returns-then-begins-10 c = ((λ yes. rename_begins c.args.text.now (c.begins-10.ensures.0 c.if-begins-10.true)), (λ verb. refl))

pub returns-then-begins-11 : goal.returns-then-begins-11
returns-then-begins-11 c = ((λ yes. counts_begins c.args.text.now (c.begins-11.ensures.0 c.if-begins-11.true)), (λ verb. refl))

pub returns-then-begins-12 : goal.returns-then-begins-12
returns-then-begins-12 c = ((λ yes. purge_begins c.args.text.now (c.begins-12.ensures.0 c.if-begins-12.true)), (λ verb. refl))

pub returns-then-begins-13 : goal.returns-then-begins-13
returns-then-begins-13 c = ((λ yes. keywords_begins c.args.text.now (c.begins-13.ensures.0 c.if-begins-13.true)), (λ verb. refl))

pub returns : goal.returns
returns c = (
  (λ yes. resync_begins c.args.text.now (c.begins-14.ensures.0 yes)),
  (λ verb. elim (cases_Bool c.begins-14.result) [
    | inl is ↦ is
    | inr isnt ↦ absurd (none_begins c.args.text.now
        (refused_by c.begins.result c.begins.ensures c.if-begins.false)
        (refused_by c.begins-2.result c.begins-2.ensures c.if-begins-2.false)
        (refused_by c.begins-3.result c.begins-3.ensures c.if-begins-3.false)
        (refused_by c.begins-4.result c.begins-4.ensures c.if-begins-4.false)
        (refused_by c.begins-5.result c.begins-5.ensures c.if-begins-5.false)
        (refused_by c.begins-6.result c.begins-6.ensures c.if-begins-6.false)
        (refused_by c.begins-7.result c.begins-7.ensures c.if-begins-7.false)
        (refused_by c.begins-8.result c.begins-8.ensures c.if-begins-8.false)
        (refused_by c.begins-9.result c.begins-9.ensures c.if-begins-9.false)
        (refused_by c.begins-10.result c.begins-10.ensures c.if-begins-10.false)
        (refused_by c.begins-11.result c.begins-11.ensures c.if-begins-11.false)
        (refused_by c.begins-12.result c.begins-12.ensures c.if-begins-12.false)
        (refused_by c.begins-13.result c.begins-13.ensures c.if-begins-13.false)
        (refused_by c.begins-14.result c.begins-14.ensures isnt) verb)
  ]),
)
