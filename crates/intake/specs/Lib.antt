-- What the taking of one record promises: what the checks' rows become, and what is left.
pub mod Words
pub mod WorkArea
pub mod Steps
pub mod Takes
