use Rattle.mail_fetch.proofs.Common.{◌≤◌, ℕ, List, ◌++◌, drop, length, inl, inr, sym, ◌∙◌, ap, subst, arith, RegionValue, HoldsWhole}
use Rattle.mdbox_base.specs.declared.replies.Reply.TheVariants as reply
use Rattle.mail_fetch.specs.Held.{HoldsPart, octets_held}
use Rattle.mail_fetch.proofs.MessageLemmas.{damaged}
use Rattle.mail_fetch.proofs.PieceLemmas.{octets_left, region_within}
use Rattle.mail_fetch.proofs.region.Region.into_reply.Goals.{in-Some, in-None}
use Rattle.mail_fetch.proofs.region.Region.into_reply.Goals as goal

pub message_of-requires-clause-held : goal.message_of-requires-clause-held
message_of-requires-clause-held c =
    subst (λ (xs : List ℕ). (x : ℕ) × HoldsPart c.self.inside.from xs x c.self.inside.held) (sym c.deref.ensures.value) (octets_left (drop c.self.inside.next c.self.inside.parts.items), c.self.invariant.1)

pub message_of-requires-clause-region : goal.message_of-requires-clause-region
message_of-requires-clause-region c unknown some =
    let i = c.self.invariant.2 unknown some in
    let within = region_within c.self.inside.from c.self.inside.total c.self.inside.head (c.self.inside.head.items ++ octets_held c.self.inside.from.instances c.self.inside.held) c.self.inside.parts.items c.self.inside.next c.self.invariant.0 i.0 i.1 in
    subst (λ (xs : List ℕ). length (xs ++ octets_held c.self.inside.from.instances c.self.inside.held) ≤ c.self.inside.from.size) (sym c.deref.ensures.value) within

pub message_of-requires-clause-total : goal.message_of-requires-clause-total
message_of-requires-clause-total c = c.self.invariant.0.total_is

pub message_of-requires-clause-block : goal.message_of-requires-clause-block
message_of-requires-clause-block c = let same = ap (λ (xs : List ℕ). length xs) c.deref_mut.ensures.value in let long = c.self.invariant.3 in omega (arith, same, long)

pub returns-clause-reply : goal.returns-clause-reply
returns-clause-reply c =
    let read = ap (λ (head : List ℕ). head ++ octets_held c.self.inside.from.instances c.self.inside.held) (sym c.deref.ensures.value) in
    elim c.match-message_of.branch [
      | in-Some w ↦ inl (w.in-Some.octets.items, subst (λ (v : RegionValue). HoldsWhole v.from v.octets w.in-Some.octets.items) c.self.view_is (subst (λ (xs : List ℕ). HoldsWhole c.self.inside.from xs w.in-Some.octets.items) (sym read) w.in-Some.ensures.some), w.reply-is ∙ ap reply.Fetched w.of.ensures)
      | in-None w ↦ inr (
        λ octets h. w.in-None.ensures.none octets (subst (λ (xs : List ℕ). HoldsWhole c.self.inside.from xs octets) read (subst (λ (v : RegionValue). HoldsWhole v.from v.octets octets) (sym c.self.view_is) h)),
        w.reply-is ∙ damaged c.args.self.from c.self.inside.from.file w.from.result (ap (λ (v : RegionValue). v.from.file) c.self.view_is) (w.from.ensures ∙ ap (λ (v : RegionValue). v.from.offset) c.self.view_is),
      )
    ]
