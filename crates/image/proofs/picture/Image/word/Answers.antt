use Rattle.image.proofs.picture.Image.word.Goals as goal

pub word_at-requires-clause-rise : goal.word_at-requires-clause-rise
word_at-requires-clause-rise c = rw c.as_slice.ensures c.self.invariant.texts_rise
