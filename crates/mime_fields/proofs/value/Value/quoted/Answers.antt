use Rattle.std.proofs.Common.{arith, length, ap, List, ℕ}
use Rattle.mime_fields.proofs.ReadingLemmas.{quoting_goes_on}
use Rattle.mime_fields.proofs.value.Value.quoted.Goals as goal

pub loop-octet-preserved : goal.loop-octet-preserved
loop-octet-preserved c = record {
  so_far = quoting_goes_on _ c.loop-octet.self c.next.new.self c.quoted_octet.new.self c.loop-octet.held c.with-held.result c.in-Some.octet c.in_ok-quoted_octet.field-0 c.loop-octet.invariant.so_far c.in-Some.ensures.some c.in_ok-quoted_octet.ensures.some c.with-held.ensures;
  less = omega (arith, c.loop-octet.invariant.less, ap (λ (x : List ℕ). length x) c.in-Some.ensures.some, c.quoted_octet.ensures.less);
}
