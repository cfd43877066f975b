use Rattle.disk_files.proofs.NameStepLemmas.{names_kept, names_follow}
use Rattle.disk_files.proofs.laws.names_are_followed.Goals as goal

pub returns-clause-folder : goal.returns-clause-folder
returns-clause-folder c = λ disk s folder follows. names_kept folder disk s follows

pub returns-clause-all : goal.returns-clause-all
returns-clause-all c = names_follow
