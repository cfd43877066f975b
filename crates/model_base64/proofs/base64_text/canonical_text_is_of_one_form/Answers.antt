use Rattle.model_base64.proofs.Base64Lemmas.{canonical_once}
use Rattle.model_base64.proofs.base64_text.canonical_text_is_of_one_form.Goals as goal

pub returns : goal.returns
returns c text f g a b h k = canonical_once text f g a b h k
