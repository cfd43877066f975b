use Rattle.mail_fetch.proofs.Common.{◌≡◌, ◌+◌, ◌++◌, length, refl, ap, arith, take, drop, subst, octets_to_read, HoldsWhole, IsStoredMessage}
use Rattle.mail_fetch.proofs.MessageLemmas.{cut_at, found_in, head_whole, holds_alone, listed_alone, none_map, none_stored, some_map, too_short}
use Rattle.mail_fetch.proofs.BodyLemmas.{if_none}
use Rattle.mail_fetch.proofs.message.message_alone.Goals as goal

pub returns-in_err-behind-clause-none : goal.returns-in_err-behind-clause-none
returns-in_err-behind-clause-none c =
    let small = c.in_err-behind.ensures in
    if_none c.from_residual.result _ (λ octets. too_short c.args.from.now _ octets (omega (arith, small)))

pub returns-in_err-size-clause-none : goal.returns-in_err-size-clause-none
returns-in_err-size-clause-none c =
    let at = c.in_ok-behind.behind in
    let long : length c.args.head.now + length c.args.read.items ≡ octets_to_read c.args.from.now = omega (arith, c.if-head-len.false, c.len.ensures, c.args.read.ok.0, c.requires.total) in
    let whole = head_whole c.args.from.now c.args.head.now c.args.read.items c.requires.cut c.in_ok-behind.ensures.0 long in
    let cut = cut_at c.args.from.now c.args.head.now c.args.read.items at whole (omega (arith, c.in_ok-behind.ensures.0, c.in_ok-behind.ensures.1)) long in
    if_none c.from_residual-in_err-size.result _ (λ octets. none_stored c.args.from.now c.args.head.now c.args.read.items (take at c.args.read.items) (drop at c.args.read.items) octets cut (subst (λ xs. IsStoredMessage c.args.from.now (c.args.head.now ++ xs) → ⊥) (ap (take at) c.deref.ensures.value) c.in_err-size.ensures.none))

pub returns-clause-some : goal.returns-clause-some
returns-clause-some c =
    let at = c.in_ok-behind.behind in
    let long : length c.args.head.now + length c.args.read.items ≡ octets_to_read c.args.from.now = omega (arith, c.if-head-len.false, c.len.ensures, c.args.read.ok.0, c.requires.total) in
    let whole = head_whole c.args.from.now c.args.head.now c.args.read.items c.requires.cut c.in_ok-behind.ensures.0 long in
    let cut = cut_at c.args.from.now c.args.head.now c.args.read.items at whole (omega (arith, c.in_ok-behind.ensures.0, c.in_ok-behind.ensures.1)) long in
    let found = found_in c.args.from.now c.args.head.now _ (take at c.args.read.items) c.in_ok-size.size c.in_ok-size.field-0-1.items (ap (take at) c.deref.ensures.value) c.in_ok-size.ensures.some in
    some_map c.body_alone.result _ (λ octets. HoldsWhole c.args.from.now (c.args.head.now ++ c.args.read.items) octets.items)
    (λ octets h. holds_alone c.args.from.now c.args.head.now c.args.read.items (take at c.args.read.items) (drop at c.args.read.items) octets.items c.in_ok-size.size at c.in_ok-size.field-0-1.items cut refl found c.requires.alone h.0 h.1) c.body_alone.ensures.some

pub returns-clause-none : goal.returns-clause-none
returns-clause-none c =
    let at = c.in_ok-behind.behind in
    let long : length c.args.head.now + length c.args.read.items ≡ octets_to_read c.args.from.now = omega (arith, c.if-head-len.false, c.len.ensures, c.args.read.ok.0, c.requires.total) in
    let whole = head_whole c.args.from.now c.args.head.now c.args.read.items c.requires.cut c.in_ok-behind.ensures.0 long in
    let cut = cut_at c.args.from.now c.args.head.now c.args.read.items at whole (omega (arith, c.in_ok-behind.ensures.0, c.in_ok-behind.ensures.1)) long in
    let found = found_in c.args.from.now c.args.head.now _ (take at c.args.read.items) c.in_ok-size.size c.in_ok-size.field-0-1.items (ap (take at) c.deref.ensures.value) c.in_ok-size.ensures.some in
    none_map c.body_alone.result _ _ (λ none octets h. none (listed_alone c.args.from.now c.args.head.now c.args.read.items (take at c.args.read.items) (drop at c.args.read.items) octets c.in_ok-size.size c.in_ok-size.field-0-1.items cut found c.requires.alone h)) c.body_alone.ensures.none
