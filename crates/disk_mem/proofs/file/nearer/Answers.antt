use Rattle.std.proofs.Common.{◌≡◌, refl, inl, inr, sym, ◌∙◌, Some, None}
use Rattle.disk_mem.proofs.ReadingLemmas.{there-reading, reading-there}
use Rattle.disk_mem.proofs.file.nearer.Goals as goal

pub returns-in-Some : goal.returns-in-Some
returns-in-Some c = λ disk reads. record {
  taken = λ there past less. refl;
  either = inr (
    refl,
    there-reading (disk c.args.name) _ (c.in-Some.ensures.some disk reads),
    c.is_past.ensures.0 c.if-not-is_past.false,
    c.is_less_than.ensures.0 c.if-not-is_less_than.false,
  );
}

pub returns-in-None : goal.returns-in-None
returns-in-None c = λ disk reads. record {
  taken = λ there past less. absurd (let e : Some (disk c.args.name).octets ≡ None = sym (reading-there (disk c.args.name) _ there refl) ∙ c.in-None.ensures.none refl disk reads in cc);
  either = inl refl;
}
