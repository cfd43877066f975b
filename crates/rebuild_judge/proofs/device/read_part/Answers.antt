use Rattle.std.proofs.Common.{◌≡◌, ◌≤◌, ◌++◌, ℕ, List, length, take, ◌∙◌, ap}
use Rattle.std.proofs.lemmas.List.{take_at}
use Rattle.disk_model.proofs.MomentLemmas.{if_told-map}
use Rattle.disk_model.proofs.IdleLemmas.{idle-begins}
use Rattle.disk_model.specs.Disk.{reading}
use Rattle.storage_files.specs.OnDisk.{piece_read}
use Rattle.rebuild_judge.proofs.device.read_part.Goals as goal

taken_twice : (xs ys : List ℕ) (n m : ℕ) → n ≤ length xs → length xs ≡ m → take n (take m (xs ++ ys)) ≡ take n xs
taken_twice xs ys n m h e = ap (take n) (take_at xs ys m e)

pub returns-clause-part : goal.returns-clause-part
returns-clause-part g c =
    if_told-map (λ now. take c.in_ok-count.count c.read_into.new.into ≡ piece_read c.args.offset (length c.deref_mut.result.now) (reading (now c.args.name)))
    (λ now. c.truncate.new.self.items ≡ piece_read c.args.offset c.args.size (reading (now c.args.name))) (g.D.Disk.history c.args.disk.now)
    (λ now read. c.truncate.ensures.items ∙ (taken_twice c.read_into.new.into _ c.in_ok-count.count c.in_ok-part.part.len c.in_ok-count.ensures.count (c.read_into.auto.into ∙ c.deref_mut.ensures.len)
    ∙ (read ∙ ap (λ (n : ℕ). piece_read c.args.offset n (reading (now c.args.name))) (c.deref_mut.ensures.len ∙ c.in_ok-part.ensures)))) c.in_ok-count.ensures.piece

pub returns-in_err-part-clause-idle : goal.returns-in_err-part-clause-idle
returns-in_err-part-clause-idle g c = idle-begins _
