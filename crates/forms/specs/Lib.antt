-- Strings in the forms that they come in. Read Reading, what octets of a form say, and Packing, a string's octets in a form. Streams is contracts of the code.
pub mod Reading
pub mod Packing
pub mod Streams
