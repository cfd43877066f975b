use Rattle.mail_save.proofs.Common.{List, refl, ◌∙◌, subst, InstRow, IsLaid, ids_in}
use Rattle.mail_save.proofs.attach.name_found.Goals as goal

pub returns : goal.returns
returns c = record {
  header = refl;
  rows = c.into_found-rows.ensures;
  region = λ name time prepared ids guid laid. subst (λ (rows : List InstRow). IsLaid name time prepared (ids_in rows) guid c.set_ids.new.self) (c.as_slice.ensures ∙ c.into_found-rows.ensures) (c.set_ids.ensures.set name time prepared ids guid laid);
}
