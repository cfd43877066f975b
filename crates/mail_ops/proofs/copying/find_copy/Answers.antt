use Rattle.mail_ops.proofs.Common.{◌≡◌, ◌≤◌, ◌<◌, Some, ap, sym, ◌∙◌, subst, option_copied, option_map, row_of, BoxState, room_refusal}
use Rattle.std.proofs.Common.{length}
use Rattle.std.specs.Prelude.{IfOk, IfErr}
use Rattle.mail_ops.proofs.CopyCallLemmas.{no_room_refuses}
use Rattle.mail_ops.proofs.copying.find_copy.Goals as goal

pub returns-in-Err-clause-refused : goal.returns-in-Err-clause-refused
returns-in-Err-clause-refused g c = no_room_refuses c.args.name.now c.args.uid.0 c.args.target.now c.args.store.now c.in-Some.from.now.meaning c.in-Some-list_of.to.now.meaning (row_of c.in-Some-find.row.now) c.in-Err.why
    (sym c.list_of.ensures ∙ ap (λ o. option_map (λ (i : BoxState). i.meaning) (option_copied o)) c.in-Some.is) (sym c.list_of-2.ensures ∙ ap (λ o. option_map (λ (i : BoxState). i.meaning) (option_copied o)) c.in-Some-list_of.is)
    (sym c.find.ensures ∙ ap (λ o. option_map row_of (option_copied o)) c.in-Some-find.is) (subst (λ r. IfErr r (λ w. room_refusal c.in-Some-list_of.to.now.meaning ≡ Some w)) c.in-Err.is c.next_of.ensures.refused)

pub returns-clause-source : goal.returns-clause-source
returns-clause-source g c = c.in-Some-number_of.ensures.some.1

pub returns-clause-found : goal.returns-clause-found
returns-clause-found g c =
    let source = sym c.list_of.ensures ∙ ap (λ o. option_map (λ (i : BoxState). i.meaning) (option_copied o)) c.in-Some.is in
    let room = subst (λ r. IfOk r (λ u. (u.0 ≡ c.in-Some-list_of.to.now.meaning.next) × (length c.in-Some-list_of.to.now.meaning.rows < 1000000) × (u.0 ≤ 4294967294))) c.in-Ok.is c.next_of.ensures.found in
    let target = sym c.list_of-2.ensures ∙ ap (λ o. option_map (λ (i : BoxState). i.meaning) (option_copied o)) c.in-Some-list_of.is in
    record {
      source = c.in-Some-number_of.source.0;
      from = record {
        m = c.in-Some.from.now.meaning;
        box = record { named = source; numbered = c.in-Some-number_of.ensures.some.0 ∙ source; number_is = c.in-Some-number_of.ensures.some.1 };
        listed = sym c.find.ensures ∙ ap (λ o. option_map row_of (option_copied o)) c.in-Some-find.is;
      };
      m = c.in-Some-list_of.to.now.meaning;
      to = record { named = target; numbered = c.in-Some-number_of-2.ensures.some.0 ∙ target; number_is = c.in-Some-number_of-2.ensures.some.1 };
      next_is = room.0;
      few = room.1;
      some = room.2;
    }
