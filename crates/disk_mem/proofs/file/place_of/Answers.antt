use Rattle.std.proofs.Common.{◌≡◌, ◌+◌, ◌++◌, ◌∷◌, [], take, None, List, refl, sym, ◌∙◌, subst}
use Rattle.std.proofs.lemmas.Option.{slice_get_read}
use Rattle.std.proofs.lemmas.List.{take_more, take_all}
use Rattle.disk_model.proofs.NameLemmas.{same_name-true}
use Rattle.disk_mem.specs.declared.file.File.{File}
use Rattle.disk_mem.specs.Record.{found}
use Rattle.disk_mem.proofs.FileLemmas.{found-push-other}
use Rattle.disk_mem.proofs.file.place_of.Goals as goal

pub returns-then-is_named-clause-some : goal.returns-then-is_named-clause-some
returns-then-is_named-clause-some c = record {
  file = c.index-files-i.result;
  at = slice_get_read _ _ _ _ refl c.loop-i-test.true c.index-files-i.is;
  named = sym (same_name-true _ _ (cc (c.is_named.ensures, c.if-is_named.true)));
  first = c.loop-i.invariant;
}

pub loop-i-preserved : goal.loop-i-preserved
loop-i-preserved c =
    let more : take (c.loop-i.i + 1) c.args.files.now ≡ take c.loop-i.i c.args.files.now ++ c.index-files-i.result ∷ [] =
    take_more c.args.files.now c.loop-i.i c.index-files-i.result c.loop-i-test.true ∙ (rw (← c.index-files-i.is) refl) in
    let F : List File → Type 0 = λ files. found files c.args.name ≡ None in
    subst F (sym more) (found-push-other _ _ _ (cc (c.is_named.ensures, c.if-is_named.false)) ∙ c.loop-i.invariant)

pub returns : goal.returns
returns c =
    let F : List File → Type 0 = λ files. found files c.args.name ≡ None in
    record { some = tt; none = λ _. subst F (take_all c.loop-i.i c.args.files.now c.loop-i-test.false) c.loop-i.invariant }
