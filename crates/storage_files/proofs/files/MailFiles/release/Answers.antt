use Rattle.std.proofs.Common.{◌≡◌, true, false, refl, sym, ap, ◌∙◌, arith}
use Rattle.std.specs.Prelude.{is_some}
use Rattle.storage_files.specs.Files.{given_back, end_in}
use Rattle.storage_files.proofs.FileListLemmas.{ends-kept, ends-unmade}
use Rattle.storage_files.proofs.OrderLemmas.{order-without, ends-there}
use Rattle.storage_files.proofs.UseLemmas.{use_given_back}
use Rattle.storage_files.proofs.files.MailFiles.release.Goals as goal

pub change-requires : goal.change-requires
change-requires c =
    let there : is_some (end_in c.args.file.0 c.args.self.now.files) ≡ true = sym (ap is_some c.end_of.ensures) ∙ sym c.is_some.ensures ∙ c.if-is_some.true in
    let all = ends-there c.args.file.0 c.args.self.now.files c.known_facts.ensures.rising there in
    λ k d lt e u. use_given_back _ (all k d lt e) u

pub invariant_of-self : goal.invariant_of-self
invariant_of-self c =
    let l = c.leave_out.ensures.len in
    let k = c.leave_out.ensures.capacity in
    let i = c.self.invariant.1 in
    (rw c.leave_out.ensures.items (order-without c.self.inside.files.items c.self.inside.highest c.self.inside.spare c.args.file.0 c.self.invariant.0), omega (arith, l, k, i))

pub returns-then-is_some-clause-ends : goal.returns-then-is_some-clause-ends
returns-then-is_some-clause-ends c = λ number. ap (λ v. end_in number v.files) c.change.ensures ∙ ends-kept c.args.file.0 number given_back c.args.self.now.files (λ f. refl) (λ f. refl)

pub returns-else-is_some-clause-ends : goal.returns-else-is_some-clause-ends
returns-else-is_some-clause-ends c = λ number.
    let items = c.self.inside.files.items in
    let end = rw (← c.self.view_is) at c.end_of.ensures in
    let unmade : is_some (end_in c.args.file.0 items) ≡ false = sym (ap is_some end) ∙ sym c.is_some.ensures ∙ c.if-is_some.false in
    rw (← c.self.view_is) (ap (end_in number) c.leave_out.ensures.items ∙ ends-unmade c.args.file.0 number items unmade)
