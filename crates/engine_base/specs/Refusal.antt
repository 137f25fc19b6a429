-- Document 01, 'Numbers of refusal'.
use Rattle.std.specs.Prelude.{ℕ, ◌+◌, ◌≤◌, ◌≡◌}
use Rattle.engine_base.specs.declared.refusal.Refusal.{Refusal}
use Rattle.engine_base.specs.declared.refusal.Refusal.TheVariants.{WrongSize, TableOutside, NoTrack, HeaderOutside, WindowTooHigh, EnvelopeTooHigh, NoEnvelopeEnd, ChannelOutside, NoChannel, InvalidCommand, InvalidNote, PastLengths, ZeroLength, NoLength, PastData, InvalidRecord, InvalidWord, NoRoom, OddTranspose, BadPlaylist, TooManyCommands, NoNote, WrongDataSize}

-- the number of each
abbrev pub number_of : Refusal → ℕ
-- bank is not 16,384 bytes
number_of WrongSize = 1
-- track count outside 1 to 255, or a table not wholly within the bank
number_of TableOutside = 2
-- track number not below the count
number_of NoTrack = 3
-- header not wholly in the bank
number_of HeaderOutside = 4
-- top three bits of +0 not all 0
number_of WindowTooHigh = 5
-- envelope number above 5
number_of EnvelopeTooHigh = 6
-- a used square's envelope is outside the bank or shows no F0 or FF
number_of NoEnvelopeEnd = 7
-- a channel address not 0 and outside the bank
number_of ChannelOutside = 8
-- all four addresses 0
number_of NoChannel = 9
-- byte $80 to $AF where a command stands
number_of InvalidCommand = 10
-- no such key or preset
number_of InvalidNote = 11
-- t + L above 39
number_of PastLengths = 12
-- the length read is 0
number_of ZeroLength = 13
-- a note or rest before any BL
number_of NoLength = 14
-- a byte is needed past the channel's data
number_of PastData = 15
-- a player record that no frame can go on from
number_of InvalidRecord = 16
-- a word that is no command
number_of InvalidWord = 17
number_of NoRoom = 18
-- document 02, No. 3: a transpose of odd amount
number_of OddTranspose = 19
-- document 02, No. 3: an address outside the banks, a goto that a goto leads to, or a 257th block word in a row
number_of BadPlaylist = 20
-- document 02, No. 3: a channel's 100,001st command in a frame
number_of TooManyCommands = 21
-- document 02, No. 3: a block without note or rest
number_of NoNote = 22
-- document 02, No. 5: data to be mended are empty, or more than the limit
number_of WrongDataSize = 23

-- Below: only private contracts and laws use these.

-- 1 to 9: a bank, its places, a track number or a header is refused
abbrev pub Unopened : Refusal → Type 0
Unopened refusal = (1 ≤ number_of refusal) × (number_of refusal ≤ 9)

-- 10 to 15: a channel's data are refused, at an offset within a limit
abbrev pub FaultWithin : ℕ → Refusal → ℕ → Type 0
FaultWithin limit refusal at = (10 ≤ number_of refusal) × (number_of refusal ≤ 15) × (at ≤ limit)

-- and they name the address: that of the data's start plus the offset
abbrev pub FaultAt : ℕ → ℕ → Refusal → ℕ → ℕ → Type 0
FaultAt start limit refusal at address = FaultWithin limit refusal at × (address ≡ start + at)
