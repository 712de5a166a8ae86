use Rattle.image.proofs.picture.Image.in_text.Goals as goal

pub text_at-requires-clause-rise : goal.text_at-requires-clause-rise
text_at-requires-clause-rise c = rw c.as_slice.ensures c.self.invariant.texts_rise
