pub mod ProfileLaws
pub mod RecordLaws
pub mod ValueLaws
