use Rattle.std.proofs.Common.{if◌then◌else◌}
use Rattle.disk_model.specs.Disk.{synced}
use Rattle.disk_files.proofs.StepLemmas.{content_follows, synced-alike}
use Rattle.disk_files.proofs.laws.syncs_are_followed.Goals as goal

pub returns : goal.returns
returns c = λ disk s name number sound owns file stands follows.
    content_follows number synced (λ f. if s.is_sound then synced f else f) s name disk c.files_have_own_paths.ensures owns file stands (synced-alike s.is_sound (disk name) (s.content number) sound) follows
