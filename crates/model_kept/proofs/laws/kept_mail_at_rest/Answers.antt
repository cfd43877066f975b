use Rattle.disk_model.specs.declared.name.FileName.TheVariants as file
use Rattle.disk_model.proofs.AtRestLemmas.{at_rest-leaves}
use Rattle.model_kept.proofs.laws.kept_mail_at_rest.Goals as goal

pub returns : goal.returns
returns c = λ m old image number rests sealed stays. (at_rest-leaves (old.now (file.Mail number)) rests (image (file.Mail number))).0 ((stays (file.Mail number)).sealed sealed)
