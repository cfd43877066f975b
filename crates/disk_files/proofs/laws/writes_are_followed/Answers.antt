use Rattle.disk_model.specs.Disk.{written}
use Rattle.disk_files.proofs.StepLemmas.{content_follows, written-alike}
use Rattle.disk_files.proofs.laws.writes_are_followed.Goals as goal

pub returns : goal.returns
returns c = λ disk s name number at octets owns file stands follows.
    content_follows number (written at octets) (written at octets) s name disk c.files_have_own_paths.ensures owns file stands (written-alike at octets (disk name) (s.content number)) follows
