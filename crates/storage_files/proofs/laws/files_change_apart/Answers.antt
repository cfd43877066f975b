use Rattle.storage_files.proofs.FileListLemmas.{file-other, file-here, file-gone, file-without, file-begun, file-before_begun}
use Rattle.storage_files.proofs.laws.files_change_apart.Goals as goal

pub returns : goal.returns
returns c = record {
  changed = λ number change files keeps. file-here number change files keeps;
  others = λ number other change files keeps apart. file-other number other change files keeps apart;
  gone = λ number files. file-gone number files;
  others_left = λ number other files apart. file-without number other files apart;
  begun = λ file files none. file-begun file files none;
  others_before = λ file other files apart. file-before_begun file other files apart;
}
