-- Sizes that the server and the journal of its events share. Assumes nothing.
use Rattle.std.specs.Prelude.{ℕ}

-- payload taken from a client at most 1,024 bytes
abbrev pub payload_limit : ℕ
payload_limit = 1024

-- 02, Q-12: a list of 32 patterns, each of at most 128 bytes with a newline behind it
abbrev pub list_limit : ℕ
list_limit = 4128
