-- Published words, so that a wrong seed, order or count of rounds is no definition.
use Rattle.std.proofs.Common.{◌≡◌, refl}
use Rattle.rand_core.specs.Steps.{u32_at}
use Rattle.rand_chacha.specs.Block.{block_word, column_round, diagonal_round, double_rounds, quarter_round}
use Rattle.sm_drill.specs.Words.{word_of}

-- J. Strombergson, "Test Vectors for the Stream Cipher ChaCha" (draft-strombergson-chacha-test-vectors-01), at 8 rounds
-- and 256 bits of key: TC1, whose key is zero
pub first_word_of_0 : word_of 0 0 ≡ 0x2fef003e
unfolding u32_at block_word double_rounds diagonal_round quarter_round column_round
first_word_of_0 = refl

-- TC2, whose key has one bit, the lowest of its first byte: the first word, one within the block, and the first and the
-- last of the next block
pub first_word_of_1 : word_of 1 0 ≡ 0xa0e95ecf
unfolding u32_at block_word double_rounds diagonal_round quarter_round column_round
first_word_of_1 = refl

pub inner_word_of_1 : word_of 1 5 ≡ 0xcc5a63ee
unfolding u32_at block_word double_rounds diagonal_round quarter_round column_round
inner_word_of_1 = refl

pub next_block_of_1 : word_of 1 16 ≡ 0x7d5a35b4
unfolding u32_at block_word double_rounds diagonal_round quarter_round column_round
next_block_of_1 = refl
