use Rattle.dle_framing.specs.Items.{items}
use Rattle.panel_session.proofs.TextFronts.{text_front, text_once}
use Rattle.panel_session.proofs.laws.texts_go_on.Goals as goal

pub returns : goal.returns
returns c = record {
  front = text_front;
  one = λ plant read entries text other is is'. text_once plant (items read) entries text other is is';
}
