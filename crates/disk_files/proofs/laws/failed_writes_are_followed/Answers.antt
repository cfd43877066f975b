use Rattle.disk_files.specs.Follows.{half_written_as}
use Rattle.disk_files.proofs.StepLemmas.{content_follows, half-alike}
use Rattle.disk_files.proofs.laws.failed_writes_are_followed.Goals as goal

pub returns : goal.returns
returns c = λ disk s name number at n f owns file stands half follows.
    content_follows number (half_written_as at n f.octets) (λ _. f) s name disk c.files_have_own_paths.ensures owns file stands
    (half-alike at n (disk name) (s.content number) f half) follows
