use Rattle.std.proofs.Common.{List, ap, arith, length, map}
use Rattle.std.proofs.lemmas.List.{nil_from_length}
use Rattle.mdbox_base.specs.declared.ids.FileNo.{FileNo}
use Rattle.store_rebuild.proofs.MapTextLemmas.{rows_end, rows_more, with_rows}
use Rattle.store_rebuild.proofs.map.files_skipped.Goals as goal

pub loop-last-init : goal.loop-last-init
loop-last-init c = record {
  left = ap (λ (fs : List FileNo). with_rows c.args.skipped.now (map (λ (f : FileNo). f.0) fs)) c.new-files.ensures.items;
  rising = let e = ap length c.new-files.ensures.items in λ i j d l m. absurd (omega (arith, e, m));
}

pub loop-last-preserved : goal.loop-last-preserved
loop-last-preserved c = record {
  left = rows_more c.loop-last.rest.now c.in-Some.before.now c.in-Some.last.now c.loop-last.files.items _ _ c.loop-last.invariant.left c.in-Some.ensures.cases.0 c.in_ok-files.ensures.files;
  rising = c.in_ok-files.ensures.rising;
}

pub returns : goal.returns
returns c = λ places e. rows_end c.args.skipped.now c.loop-last.rest.now c.loop-last.files.items places (nil_from_length c.loop-last.rest.now c.in_default.ensures.cases) c.loop-last.invariant.left e
