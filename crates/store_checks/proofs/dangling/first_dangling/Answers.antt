use Rattle.std.proofs.lemmas.Bool.Decides.{when_true, when_false}
use Rattle.std.proofs.lemmas.List.Elements.{All-nil}
use Rattle.store_checks.specs.Dangling.{AddsNoDangling}
use Rattle.store_checks.proofs.TextWalkLemmas.{walk-none}
use Rattle.store_checks.proofs.DanglingLemmas.{searched-more, searched-found, searched-all}
use Rattle.store_checks.proofs.dangling.first_dangling.Goals as goal

pub loop-place-init : goal.loop-place-init
loop-place-init c = record {
  texts = c.requires.0;
  is = c.requires.1;
  replayed = c.requires.2;
  walk = walk-none c.requires.0 c.entries-entries.result.octets.now c.entries-entries.result.gate (c.entries-entries.ensures.entries c.requires.0 c.requires.1) c.entries-entries.ensures.first;
  none = All-nil (AddsNoDangling c.args.map.now.meaning c.args.index.now.meaning);
}

pub returns-then-branch : goal.returns-then-branch
returns-then-branch c =
    searched-found c.args.map.now.meaning c.args.index.now.meaning c.args.text.now _ _ _ _ c.in-Some.place c.in-Some.entry c.loop-place.invariant c.in-Some.ensures.next (when_true _ _ c.if-branch.true c.in_ok-adds_dangling.ensures)

pub loop-place-preserved : goal.loop-place-preserved
loop-place-preserved c =
    searched-more c.args.map.now.meaning c.args.index.now.meaning c.args.text.now _ _ _ _ c.in-Some.place c.in-Some.entry c.loop-place.invariant c.in-Some.ensures.next (when_false _ _ c.if-branch.false c.in_ok-adds_dangling.ensures)

pub returns : goal.returns
returns c = searched-all c.args.map.now.meaning c.args.index.now.meaning c.args.text.now _ c.next_entry.new.self.octets.now _ c.next_entry.new.self.gate c.loop-place.invariant c.in_default.ensures.next
