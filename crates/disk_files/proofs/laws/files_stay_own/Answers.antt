use Rattle.std.proofs.Common.{◌≡◌}
use Rattle.folder_model.specs.System.{Nothing, PlainFile, AFolder}
use Rattle.disk_files.proofs.OwnLemmas.{owns_put, owns_synced, owns_new}
use Rattle.disk_files.proofs.laws.files_stay_own.Goals as goal

pub returns-clause-removal : goal.returns-clause-removal
returns-clause-removal c = λ s path owns. owns_put path Nothing s (λ n e. let d : PlainFile n ≡ Nothing = e in cc) owns

pub returns-clause-folder : goal.returns-clause-folder
returns-clause-folder c = λ s path owns. owns_put path AFolder s (λ n e. let d : PlainFile n ≡ AFolder = e in cc) owns

pub returns-clause-making : goal.returns-clause-making
returns-clause-making c = λ s path system none owns. owns_new path s system none owns

pub returns-clause-names : goal.returns-clause-names
returns-clause-names c = λ s folder owns. owns_synced folder s owns
