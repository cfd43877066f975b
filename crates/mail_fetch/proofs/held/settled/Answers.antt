use Rattle.mail_fetch.proofs.Common.{◌++◌, ◌∙◌, List, length, sym, ap, subst, arith, InstRow}
use Rattle.mail_fetch.specs.Held.{IsUnknown, octets_held}
use Rattle.mail_fetch.specs.declared.held.Held.{Held}
use Rattle.mail_fetch.proofs.held.settled.Goals as goal

pub returns-in-AsRead-clause-held : goal.returns-in-AsRead-clause-held
returns-in-AsRead-clause-held c left held_is region =
    let both = region (subst IsUnknown (sym c.in-AsRead.is) tt) (λ none. c.if-length-eq0.false (c.length.ensures ∙ ap (λ (rows : List InstRow). length rows) none)) in
    let same = ap (λ (h : Held). length (c.args.head.now ++ octets_held c.args.from.now.instances h)) c.in-AsRead.is in
    let most = both.0 in
    c.settle.ensures.held left (omega (arith, same, most)) both.1
