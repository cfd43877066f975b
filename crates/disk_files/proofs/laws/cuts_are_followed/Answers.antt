use Rattle.disk_model.specs.Disk.{cut_to}
use Rattle.disk_files.proofs.StepLemmas.{content_follows, cut-alike}
use Rattle.disk_files.proofs.laws.cuts_are_followed.Goals as goal

pub returns : goal.returns
returns c = λ disk s name number end owns file stands follows.
    content_follows number (cut_to end) (cut_to end) s name disk c.files_have_own_paths.ensures owns file stands (cut-alike end (disk name) (s.content number)) follows
