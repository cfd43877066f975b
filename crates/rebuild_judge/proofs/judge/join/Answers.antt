use Rattle.std.proofs.Common.{arith, true, false, ◌∙◌, ap, min, ◌≡◌, refl}
use Rattle.disk_model.proofs.IdleLemmas.{idle-begins}
use Rattle.disk_model.proofs.MomentLemmas.{if_told-all, if_told-map}
use Rattle.model_found.specs.declared.reason.Reason.TheVariants as reason
use Rattle.rebuild_files.proofs.FindingLemmas.{ok_no_error}
use Rattle.rebuild_judge.proofs.JoinSizeLemmas.{by_body, other_told, unwrap_is}
use Rattle.rebuild_judge.proofs.judge.join.Goals as goal

pub returns-then-gzip-clause-joins : goal.returns-then-gzip-clause-joins
returns-then-gzip-clause-joins g c =
    if_told-map _ _ (g.D.Disk.history c.args.disk.now)
    (λ disk gzip. by_body c.args.number.0 c.args.place.now c.args.meta.now c.min-stored.result c.unwrap_or-whole.result c.args.sizes.now c.in_ok-gzip-in-SizeDiffers.gzip reason.Compressed disk (c.min-stored.ensures ∙ ap (min c.args.place.now.size) c.from.ensures)
    (c.unwrap_or-whole.ensures ∙ unwrap_is c.args.meta.now.physical c.min-stored.result) (rw (c.as_slice.ensures, c.in-Err.is, c.in-SizeDiffers.is) at c.joined_size.ensures.joins) gzip
    (let e : c.in_ok-gzip-in-SizeDiffers.gzip ≡ true = c.if-gzip.true in rw e refl)) c.in_ok-gzip-in-SizeDiffers.ensures.start

pub returns-else-gzip-clause-joins : goal.returns-else-gzip-clause-joins
returns-else-gzip-clause-joins g c =
    if_told-map _ _ (g.D.Disk.history c.args.disk.now)
    (λ disk gzip. by_body c.args.number.0 c.args.place.now c.args.meta.now c.min-stored.result c.unwrap_or-whole.result c.args.sizes.now c.in_ok-gzip-in-SizeDiffers.gzip reason.SizeDiffers disk (c.min-stored.ensures ∙ ap (min c.args.place.now.size) c.from.ensures)
    (c.unwrap_or-whole.ensures ∙ unwrap_is c.args.meta.now.physical c.min-stored.result) (rw (c.as_slice.ensures, c.in-Err.is, c.in-SizeDiffers.is) at c.joined_size.ensures.joins) gzip
    (let e : c.in_ok-gzip-in-SizeDiffers.gzip ≡ false = c.if-gzip.false in rw e refl)) c.in_ok-gzip-in-SizeDiffers.ensures.start

pub returns-in-Ok-clause-idle : goal.returns-in-Ok-clause-idle
returns-in-Ok-clause-idle g c = idle-begins _

pub returns-in_default : goal.returns-in_default
returns-in_default g c = record {
  joins = if_told-all _ (g.D.Disk.history c.args.disk.now)
      (λ disk. other_told c.args.number.0 c.args.place.now c.args.meta.now c.min-stored.result c.unwrap_or-whole.result c.args.sizes.now _ disk (c.min-stored.ensures ∙ ap (min c.args.place.now.size) c.from.ensures)
      (c.unwrap_or-whole.ensures ∙ unwrap_is c.args.meta.now.physical c.min-stored.result) (rw (c.as_slice.ensures, c.in-Err.is) at c.joined_size.ensures.joins) (λ e. c.in_default.not-SizeDiffers (cc e)));
  size = tt;
  whole = ok_no_error _ _;
  idle = idle-begins _;
  fault = record { reads = omega arith; changes = refl; rose = λ failed. absurd (ok_no_error _ _ failed) };
  unfailed = λ none. refl;
}
