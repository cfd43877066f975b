use Rattle.std.proofs.Common.{length, refl}
use Rattle.std.proofs.lemmas.Result.{on_ok_weaker, on_err_weaker}
use Rattle.dump_text.specs.DumpText.{dump_text}
use Rattle.dump_text.proofs.PlaceLemmas.{file_shown}
use Rattle.dump_text.proofs.dump_print.print_messages.Goals as goal

pub print_places-requires : goal.print_places-requires
print_places-requires g c = let p = c.requires in (dump_text (length p.0) p.1, file_shown c.args.file.now p.0 p.1 _ p.2 p.3)

pub returns-clause-ok : goal.returns-clause-ok
returns-clause-ok g c = let p = c.requires in
    on_ok_weaker c.print_places.result (λ f. (dump_text (length p.0) p.1, (p.0, p.1, p.2, refl), f (dump_text (length p.0) p.1) (file_shown c.args.file.now p.0 p.1 _ p.2 p.3))) c.print_places.ensures.ok

pub returns-clause-err : goal.returns-clause-err
returns-clause-err g c = let p = c.requires in
    on_err_weaker c.print_places.result (λ f. (dump_text (length p.0) p.1, (p.0, p.1, p.2, refl), f (dump_text (length p.0) p.1) (file_shown c.args.file.now p.0 p.1 _ p.2 p.3))) c.print_places.ensures.err
