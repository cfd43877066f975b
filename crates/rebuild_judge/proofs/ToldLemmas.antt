-- Facts of one state of a disk, together.
use Rattle.disk_model.proofs.MomentLemmas.{if_told-both}
use Rattle.disk_model.specs.Disk.{DiskState, History, IfTold}
use Rattle.std.proofs.Common.{Option}

pub told_three : (P Q R S : DiskState → Type 0) (h : Option History) → ((disk : DiskState) → P disk → Q disk → R disk → S disk) → IfTold h P → IfTold h Q → IfTold h R → IfTold h S
told_three P Q R S h f p q r = if_told-both (λ disk. P disk × Q disk) R S h (λ disk a c. f disk a.0 a.1 c) (if_told-both P Q (λ disk. P disk × Q disk) h (λ disk a b. (a, b)) p q) r

pub told_four : (P Q R S T : DiskState → Type 0) (h : Option History) → ((disk : DiskState) → P disk → Q disk → R disk → S disk → T disk) → IfTold h P → IfTold h Q → IfTold h R → IfTold h S → IfTold h T
told_four P Q R S T h f p q r s = if_told-both (λ disk. P disk × Q disk) (λ disk. R disk × S disk) T h (λ disk a c. f disk a.0 a.1 c.0 c.1) (if_told-both P Q (λ disk. P disk × Q disk) h (λ disk a b. (a, b)) p q)
    (if_told-both R S (λ disk. R disk × S disk) h (λ disk a b. (a, b)) r s)
