use Rattle.std.proofs.Common.{List, Some, None, false, subst, sym, true, ◌≡◌, ◌∙◌, arith, refl}
use Rattle.std.proofs.lemmas.Bool.{false≢true, le-leb, leb-true}
use Rattle.disk_mem.specs.declared.file.File.{File}
use Rattle.disk_mem.specs.Mem.{told}
use Rattle.disk_mem.specs.Record.{ReadsAll}
use Rattle.disk_mem.proofs.MuteLemmas.{gone_reach, reaches_reads, reads_reach}
use Rattle.disk_mem.proofs.mute.MuteDisk.reaches.Goals as goal

pub returns-in-Some-clause-yes : goal.returns-in-Some-clause-yes
returns-in-Some-clause-yes c le =
    let now = (told c.args.self.now.inner).now in
    let files : ReadsAll c.deref.result.now now = subst (λ files. ReadsAll files now) (sym c.deref.ensures.value) c.args.self.now.inner.agrees in
    reads_reach (now c.args.name) c.in-Some.text.now.octets.items c.args.length (c.in-Some.ensures.some now files) (omega (arith, c.len.ensures, leb-true c.args.length c.len.result le))

pub returns-in-Some-clause-no : goal.returns-in-Some-clause-no
returns-in-Some-clause-no c more reaches =
    let now = (told c.args.self.now.inner).now in
    let files : ReadsAll c.deref.result.now now = subst (λ files. ReadsAll files now) (sym c.deref.ensures.value) c.args.self.now.inner.agrees in
    let le = reaches_reads (now c.args.name) c.in-Some.text.now.octets.items c.args.length (c.in-Some.ensures.some now files) reaches in
    false≢true (sym more ∙ le-leb c.args.length c.len.result (omega (arith, c.len.ensures, le)))

pub returns-in-None-clause-no : goal.returns-in-None-clause-no
returns-in-None-clause-no c is reaches =
    let now = (told c.args.self.now.inner).now in
    let files : ReadsAll c.deref.result.now now = subst (λ files. ReadsAll files now) (sym c.deref.ensures.value) c.args.self.now.inner.agrees in
    gone_reach (now c.args.name) c.args.length (c.in-None.ensures.none refl now files) reaches
