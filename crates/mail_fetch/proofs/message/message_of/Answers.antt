use Rattle.mail_fetch.proofs.Common.{◌≡◌, ◌-◌, ◌++◌, ◌∙◌, List, ℕ, length, sym, ap, subst, arith, common_steps, All, ExtRef, HoldsWhole}
use Rattle.std.specs.Prelude.{IfSome}
use Rattle.attach_join.specs.Behind.{octets_in}
use Rattle.attach_join.specs.Kept.{FitInto, kept_in}
use Rattle.attach_join.specs.Spread.{outside}
use Rattle.model_attach.specs.Rejoined.{IsWhole}
use Rattle.model_base64.specs.Base64Text.{IsForm}
use Rattle.mail_fetch.specs.Held.{HasJoinRoom, HasOctetRoom, HoldsPart, IsSpread, octets_of_instances, octets_held}
use Rattle.mail_fetch.proofs.HeldLemmas.{forms_of_spread, held_less, lost_now, spread_is_whole, spread_too_few}
use Rattle.mail_fetch.proofs.MessageLemmas.{none_map, some_map}
use Rattle.mail_fetch.proofs.message.message_of.Goals as goal

pub message_alone-requires-clause-cut : goal.message_alone-requires-clause-cut
message_alone-requires-clause-cut c =
    let now = c.settled.ensures.held 0 (held_less c.args.from.now c.args.head.now 0 c.requires.held.0 c.args.held (omega arith) c.requires.held.1) (λ unknown some. (c.requires.region unknown some, omega arith)) in
    let there : HasOctetRoom c.args.from.now c.args.head.now c.in-AsRead.octets × HasJoinRoom c.args.from.now c.in-AsRead.octets c.in-AsRead.refs c.in-AsRead.tail = subst (HoldsPart c.args.from.now c.args.head.now 0) c.in-AsRead.is now in
    there.0.cut

pub message_alone-requires-clause-empty : goal.message_alone-requires-clause-empty
message_alone-requires-clause-empty c =
    let now = c.settled.ensures.held 0 (held_less c.args.from.now c.args.head.now 0 c.requires.held.0 c.args.held (omega arith) c.requires.held.1) (λ unknown some. (c.requires.region unknown some, omega arith)) in
    let there : HasOctetRoom c.args.from.now c.args.head.now c.in-AsRead.octets × HasJoinRoom c.args.from.now c.in-AsRead.octets c.in-AsRead.refs c.in-AsRead.tail = subst (HoldsPart c.args.from.now c.args.head.now 0) c.in-AsRead.is now in
    there.1.no_refs

pub returns-in-AsRead-clause-none : goal.returns-in-AsRead-clause-none
returns-in-AsRead-clause-none c =
    let same : octets_held c.args.from.now.instances c.args.held ≡ c.in-AsRead.octets.items = sym c.settled.ensures.octets ∙ ap (octets_held c.args.from.now.instances) c.in-AsRead.is in
    none_map c.message_alone.result _ _ (λ none octets h. none octets (subst (λ (xs : List ℕ). HoldsWhole c.args.from.now (c.args.head.now ++ xs) octets) same h)) c.message_alone.ensures.none

pub joined-requires-clause-fit : goal.joined-requires-clause-fit
joined-requires-clause-fit c =
    let now = c.settled.ensures.held 0 (held_less c.args.from.now c.args.head.now 0 c.requires.held.0 c.args.held (omega arith) c.requires.held.1) (λ unknown some. (c.requires.region unknown some, omega arith)) in
    let s : IsSpread c.args.from.now c.args.head.now c.in-Spread.whole.items c.in-Spread.tail.items c.in-Spread.refs.items c.in-Spread.kept = subst (HoldsPart c.args.from.now c.args.head.now 0) c.in-Spread.is now in
    (s.fit.0, subst (λ (rs : List ExtRef). FitInto (length c.in-Spread.whole.items) s.fit.0 rs c.args.from.now.instances) (sym c.deref.ensures.value) s.fit.1)

pub joined-requires-clause-forms : goal.joined-requires-clause-forms
joined-requires-clause-forms c =
    let now = c.settled.ensures.held 0 (held_less c.args.from.now c.args.head.now 0 c.requires.held.0 c.args.held (omega arith) c.requires.held.1) (λ unknown some. (c.requires.region unknown some, omega arith)) in
    let s : IsSpread c.args.from.now c.args.head.now c.in-Spread.whole.items c.in-Spread.tail.items c.in-Spread.refs.items c.in-Spread.kept = subst (HoldsPart c.args.from.now c.args.head.now 0) c.in-Spread.is now in
    subst (All (λ (ref : ExtRef). IfSome ref.form IsForm)) (sym c.deref.ensures.value) (forms_of_spread c.args.from.now c.args.head.now c.in-Spread.whole.items c.in-Spread.tail.items c.in-Spread.refs.items c.in-Spread.kept s)

pub returns-in-Spread-clause-some : goal.returns-in-Spread-clause-some
returns-in-Spread-clause-some c =
    let now = c.settled.ensures.held 0 (held_less c.args.from.now c.args.head.now 0 c.requires.held.0 c.args.held (omega arith) c.requires.held.1) (λ unknown some. (c.requires.region unknown some, omega arith)) in
    let s : IsSpread c.args.from.now c.args.head.now c.in-Spread.whole.items c.in-Spread.tail.items c.in-Spread.refs.items c.in-Spread.kept = subst (HoldsPart c.args.from.now c.args.head.now 0) c.in-Spread.is now in
    let same = sym c.settled.ensures.octets ∙ ap (octets_held c.args.from.now.instances) c.in-Spread.is in
    let total = c.requires.total in
    some_map c.joined.result _ (λ octets. HoldsWhole c.args.from.now (c.args.head.now ++ octets_held c.args.from.now.instances c.args.held) octets.items)
    (λ octets h.
    let all : c.in-Spread.kept ≡ octets_of_instances c.args.from.now = (let t = h.0 in let e : c.in-Spread.kept ≡ c.args.total - c.args.from.now.size = grind (arith, common_steps, t) in omega (arith, e, total)) in
    subst (λ (xs : List ℕ). HoldsWhole c.args.from.now (c.args.head.now ++ xs) octets.items) (sym same)
    (spread_is_whole c.args.from.now c.args.head.now c.in-Spread.whole.items c.in-Spread.tail.items octets.items c.in-Spread.refs.items c.in-Spread.kept s all h.1
    (subst (λ (rs : List ExtRef). IsWhole octets.items (outside rs c.in-Spread.whole.items) rs (octets_in c.args.from.now.instances (kept_in rs c.args.from.now.instances c.in-Spread.whole.items))) c.deref.ensures.value h.2))) c.joined.ensures.some

pub returns-in-Spread-clause-none : goal.returns-in-Spread-clause-none
returns-in-Spread-clause-none c =
    let now = c.settled.ensures.held 0 (held_less c.args.from.now c.args.head.now 0 c.requires.held.0 c.args.held (omega arith) c.requires.held.1) (λ unknown some. (c.requires.region unknown some, omega arith)) in
    let s : IsSpread c.args.from.now c.args.head.now c.in-Spread.whole.items c.in-Spread.tail.items c.in-Spread.refs.items c.in-Spread.kept = subst (HoldsPart c.args.from.now c.args.head.now 0) c.in-Spread.is now in
    let same = sym c.settled.ensures.octets ∙ ap (octets_held c.args.from.now.instances) c.in-Spread.is in
    let total = c.requires.total in
    none_map c.joined.result _ _
    (λ t octets h. spread_too_few c.args.from.now c.args.head.now c.in-Spread.whole.items c.in-Spread.tail.items octets c.in-Spread.refs.items c.in-Spread.kept s
    (λ all. let e : c.in-Spread.kept ≡ c.args.total - c.args.from.now.size = omega (arith, all, total) in grind (arith, common_steps, t, e))
    (subst (λ (xs : List ℕ). HoldsWhole c.args.from.now (c.args.head.now ++ xs) octets) same h)) c.joined.ensures.none

pub returns-clause-none : goal.returns-clause-none
returns-clause-none c octets h =
    let now = c.settled.ensures.held 0 (held_less c.args.from.now c.args.head.now 0 c.requires.held.0 c.args.held (omega arith) c.requires.held.1) (λ unknown some. (c.requires.region unknown some, omega arith)) in
    let d = subst (HoldsPart c.args.from.now c.args.head.now 0) c.in-Damaged.is now in
    let same : octets_held c.args.from.now.instances c.args.held ≡ c.in-Damaged.octets.items = sym c.settled.ensures.octets ∙ ap (octets_held c.args.from.now.instances) c.in-Damaged.is in
    lost_now c.args.from.now (c.args.head.now ++ c.in-Damaged.octets.items) octets 0 d.1 (subst (λ (xs : List ℕ). HoldsWhole c.args.from.now (c.args.head.now ++ xs) octets) same h)
