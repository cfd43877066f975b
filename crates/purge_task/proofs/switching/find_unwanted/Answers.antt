use Rattle.purge_task.proofs.Common.{◌+◌, inl, inr, refl, sym, subst, ◌∙◌, arith, cases_eq}
use Rattle.std.proofs.Common.{vec_capacity}
use Rattle.purge_task.proofs.ListingLemmas.{AreUnwantedTo, unwanted_begins, unwanted_passes, unwanted_adds, room_for_one, unwanted_ends}
use Rattle.purge_task.proofs.WalkLemmas.{row_bounds}
use Rattle.purge_task.proofs.switching.find_unwanted.Goals as goal

pub loop-row-init : goal.loop-row-init
loop-row-init c = record { so = unwanted_begins c.args.map.now.meaning c.args.file.0 c.args.dropped.now.items c.requires.empty; room = refl }

pub loop-row-preserved : goal.loop-row-preserved
loop-row-preserved c =
    let found = sym c.in-Some.is ∙ c.in_file.ensures in
    record {
      so = elim (cases_eq c.in-Some.row.count 0) [
        | inl none ↦ subst (AreUnwantedTo c.args.map.now.meaning c.args.file.0 (c.in-Some.row.offset + c.in-Some.row.size)) (sym (c.add_unwanted.ensures.unwanted none)) (unwanted_adds c.args.map.now.meaning c.args.file.0 c.loop-row.from c.in-Some.row c.loop-row.dropped.items c.requires.sound found none c.loop-row.invariant.so)
        | inr some ↦ subst (AreUnwantedTo c.args.map.now.meaning c.args.file.0 (c.in-Some.row.offset + c.in-Some.row.size)) (sym (c.add_unwanted.ensures.wanted some)) (unwanted_passes c.args.map.now.meaning c.args.file.0 c.loop-row.from c.in-Some.row c.loop-row.dropped.items c.requires.sound found some c.loop-row.invariant.so)
      ];
      room = c.add_unwanted.ensures.capacity ∙ c.loop-row.invariant.room;
    }

pub overflow_add-from : goal.overflow_add-from
overflow_add-from c = let b = row_bounds c.args.map.now.meaning c.args.file.0 c.loop-row.from c.in-Some.row c.requires.sound (sym c.in-Some.is ∙ c.in_file.ensures) in let ends = b.2 in omega (arith, ends)

pub loop-row-smaller : goal.loop-row-smaller
loop-row-smaller c =
    let b = row_bounds c.args.map.now.meaning c.args.file.0 c.loop-row.from c.in-Some.row c.requires.sound (sym c.in-Some.is ∙ c.in_file.ensures) in
    let low = b.0 in
    let some = b.1 in
    let ends = b.2 in
    omega (arith, low, some, ends)

pub returns : goal.returns
returns c = unwanted_ends c.args.map.now.meaning c.args.file.0 c.loop-row.from c.loop-row.dropped.items (sym c.in_default.is ∙ c.in_file.ensures) c.loop-row.invariant.so

pub add_unwanted-requires : goal.add_unwanted-requires
add_unwanted-requires c =
    let a = c.requires.room in
    let b = c.loop-row.invariant.room in
    let h = room_for_one c.args.map.now.meaning c.args.file.0 c.loop-row.from c.in-Some.row c.loop-row.dropped.items (vec_capacity c.loop-row.dropped) c.requires.sound (sym c.in-Some.is ∙ c.in_file.ensures) c.loop-row.invariant.so (omega (arith, a, b)) in
    let l = c.loop-row.dropped.ok.0 in
    omega (arith, h, l)
