-- The numbers and names of the errors.
use Rattle.std.specs.Prelude.{ℕ, List, codes}
use Rattle.amqp_wire.specs.declared.error.Error.{Error}
use Rattle.amqp_wire.specs.declared.error.Error.TheVariants.{Cut, UnknownCode, FloatCode, Size, OddCount, DuplicateKey, Surplus, Missing}
use Rattle.amqp_wire.specs.declared.error.Error.TheVariants.{WrongDescriptor, Depth, ZeroWidthItems, BadBool, BadChar, BadUtf8, NonAscii}
use Rattle.amqp_wire.specs.declared.error.Error.TheVariants.{UnknownText, UnknownNumber, EmptyMultiple, EmptyBody, NotSection, Memory, Read}
use Rattle.amqp_wire.specs.declared.error.Error.TheVariants.{MixedArray, TooLarge, InvalidValue, LazyInArray, WrongType, BadDescriptor}
use Rattle.amqp_wire.specs.declared.error.Error.TheVariants.{Custom, Misplaced, Limit}

abbrev pub row_of : Error → ℕ × List ℕ
row_of Cut = (1, codes "Cut")
row_of (UnknownCode _) = (2, codes "UnknownCode")
row_of (FloatCode _) = (3, codes "FloatCode")
row_of Size = (4, codes "Size")
row_of OddCount = (5, codes "OddCount")
row_of DuplicateKey = (6, codes "DuplicateKey")
row_of Surplus = (7, codes "Surplus")
row_of Missing = (8, codes "Missing")
row_of WrongDescriptor = (9, codes "WrongDescriptor")
row_of Depth = (10, codes "Depth")
row_of ZeroWidthItems = (11, codes "ZeroWidthItems")
row_of BadBool = (12, codes "BadBool")
row_of BadChar = (13, codes "BadChar")
row_of BadUtf8 = (14, codes "BadUtf8")
row_of NonAscii = (15, codes "NonAscii")
row_of UnknownText = (16, codes "UnknownText")
row_of UnknownNumber = (17, codes "UnknownNumber")
row_of EmptyMultiple = (18, codes "EmptyMultiple")
row_of EmptyBody = (19, codes "EmptyBody")
row_of NotSection = (20, codes "NotSection")
row_of Memory = (21, codes "Memory")
row_of (Read _) = (22, codes "Read")
row_of MixedArray = (23, codes "MixedArray")
row_of TooLarge = (24, codes "TooLarge")
row_of InvalidValue = (25, codes "InvalidValue")
row_of LazyInArray = (26, codes "LazyInArray")
row_of (WrongType _) = (27, codes "WrongType")
row_of BadDescriptor = (28, codes "BadDescriptor")
row_of (Custom _) = (29, codes "Custom")
row_of Misplaced = (30, codes "Misplaced")
row_of Limit = (31, codes "Limit")

abbrev pub number_of : Error → ℕ
number_of e = (row_of e).0

abbrev pub name_of : Error → List ℕ
name_of e = (row_of e).1
