mod DelayLemmas
mod SoundLemmas
